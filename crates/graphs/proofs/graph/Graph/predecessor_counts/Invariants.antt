-- The rows so far are counted, and then the counts so far are read.
use Rattle.std.proofs.Common.{◌≡◌, ℕ, ◌<◌, get_or}
use Rattle.graphs.specs.Tallies.{edges_into}
use Rattle.graphs.proofs.Tallying.{CountedBelow}
use Rattle.graphs.proofs.graph.Graph.predecessor_counts.Given as goal

abbrev pub invariant-loop-row : goal.invariant-loop-row
invariant-loop-row l = CountedBelow l.fn.self l.tally l.row-index

abbrev pub invariant-loop-j : goal.invariant-loop-j
invariant-loop-j l = (k : ℕ) → k < l.j → get_or l.count-items k 0 ≡ edges_into l.fn.self k
