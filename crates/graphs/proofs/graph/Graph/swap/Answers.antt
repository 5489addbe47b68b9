-- The two rows are exchanged, and then the two members of each row.
use Rattle.std.proofs.Common.{arith}
use Rattle.std.proofs.lemmas.List.Edits.{swapped_from_swap}
use Rattle.module_set.specs.Members.{no_module}
use Rattle.graphs.proofs.Changing.{turned_all}
use Rattle.graphs.proofs.Rows.{rows_swapped}
use Rattle.graphs.proofs.graph.Graph.swap.Goals as goal

pub returns-after-loop-row : goal.returns-after-loop-row
returns-after-loop-row c =
    let full = c.args.self.now.full in
    rows_swapped c.args.self.now _ c.swap.new.self c.args.a c.args.b c.if-a-lt64.true c.if-b-lt64.true
    (swapped_from_swap c.args.self.now.rows c.swap.new.self c.args.a c.args.b no_module (omega arith) (omega arith) c.swap.ensures.after)
    (turned_all c.args.a c.args.b c.loop-row.row-index c.swap.new.self c.loop-row.row-items c.loop-row-test.false c.loop-row.invariant)
