-- The places so far count both graphs, and the others one.
use Rattle.sequence_pairs.proofs.TakenIn.{Adding}
use Rattle.sequence_pairs.proofs.pair.other_places.Given as goal

abbrev pub invariant-loop-j : goal.invariant-loop-j
invariant-loop-j l = Adding l.taken l.j l.place-items
