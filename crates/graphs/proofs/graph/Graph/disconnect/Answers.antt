-- The rows of the first set lose the second.
use Rattle.std.proofs.Common.{rules, not, ◌&&◌}
use Rattle.graphs.proofs.Rows.{rows_changed, and_all}
use Rattle.graphs.proofs.graph.Graph.disconnect.Goals as goal

pub returns : goal.returns
returns c =
    rows_changed (λ a b. a && not b) _ c.args.self.now c.change_rows.new.self c.args.from c.args.to c.change_rows.ensures
    (λ x y made j. search rules) and_all
