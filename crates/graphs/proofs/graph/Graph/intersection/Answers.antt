-- A row of the members of two has the edges of both.
use Rattle.std.proofs.Common.{◌&&◌, rules, refl}
use Rattle.graphs.proofs.Combining.{rows_combined}
use Rattle.graphs.proofs.graph.Graph.intersection.Goals as goal

pub returns : goal.returns
returns c =
    rows_combined (λ a b. a && b) _ c.args.self.now c.args.other.now c.combined.result c.combined.ensures
    (λ x y z made j. search rules) refl
