-- The rows below the counter are made of two, and the others are those of the first graph.
use Rattle.graphs.proofs.Combining.{Combining}
use Rattle.graphs.proofs.graph.Graph.combined.Given as goal

abbrev pub invariant-loop-i : goal.invariant-loop-i
invariant-loop-i g l = goal.F-IsAlwaysCallable g l.make × Combining (goal.F-post g l.make) l.i l.self.rows l.other.rows l.row-items
