-- What is reached, and what the successors that are left lead to, is all.
use Rattle.graphs.proofs.Reaching.{Reaching}
use Rattle.graphs.proofs.graph.Graph.two_steps.Given as goal

abbrev pub invariant-loop-j : goal.invariant-loop-j
invariant-loop-j l = Reaching l.self l.i l.reached l.j-iterator.rest
