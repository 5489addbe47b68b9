-- The rows of the first set gain the second.
use Rattle.std.proofs.Common.{rules, ◌||◌}
use Rattle.graphs.proofs.Rows.{rows_changed, or_nothing}
use Rattle.graphs.proofs.graph.Graph.connect.Goals as goal

pub returns : goal.returns
returns c =
    rows_changed (λ a b. a || b) _ c.args.self.now c.change_rows.new.self c.args.from c.args.to c.change_rows.ensures
    (λ x y made j. search rules) or_nothing
