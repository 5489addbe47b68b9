-- A row of the members of one set alone has the edges of one graph alone.
use Rattle.std.proofs.Common.{not, ◌&&◌, rules, refl}
use Rattle.graphs.proofs.Combining.{rows_combined}
use Rattle.graphs.proofs.graph.Graph.minus.Goals as goal

pub returns : goal.returns
returns c =
    rows_combined (λ a b. a && not b) _ c.args.self.now c.args.other.now c.combined.result c.combined.ensures
    (λ x y z made j. search rules) refl
