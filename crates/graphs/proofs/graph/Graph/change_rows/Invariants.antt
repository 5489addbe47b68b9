-- The rows of the set's modules are changed but for those that are still to come.
use Rattle.graphs.proofs.Changing.{Changing}
use Rattle.graphs.proofs.graph.Graph.change_rows.Given as goal

abbrev pub invariant-loop-i : goal.invariant-loop-i
invariant-loop-i g l =
    goal.F-IsAlwaysCallable g l.change
    × Changing (goal.F-post g l.change) l.fn.of l.i-iterator.rest l.fn.self.rows l.self.rows
