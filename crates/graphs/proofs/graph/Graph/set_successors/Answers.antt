-- The row that is written is the new one, and any other is as it was.
use Rattle.std.proofs.Common.{refl}
use Rattle.graphs.proofs.Rows.{row_replaced}
use Rattle.graphs.proofs.graph.Graph.set_successors.Goals as goal

pub returns-then-i-lt64 : goal.returns-then-i-lt64
returns-then-i-lt64 c = row_replaced c.args.self.now _ c.args.i c.args.to c.if-i-lt64.true refl
