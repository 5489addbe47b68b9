-- The rows gone through have a and b in each other's place.
use Rattle.graphs.proofs.Changing.{Turned}
use Rattle.graphs.proofs.graph.Graph.swap.Given as goal

abbrev pub invariant-loop-row : goal.invariant-loop-row
invariant-loop-row l = Turned l.a l.b l.row-index l.initial.row-items l.row-items
