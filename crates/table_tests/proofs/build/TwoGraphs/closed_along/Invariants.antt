-- The places from the counter on are walked, and what stands there is met.
use Rattle.table_tests.proofs.WalkSteps.{WalkedFrom}
use Rattle.table_tests.proofs.build.TwoGraphs.closed_along.Given as goal

abbrev pub invariant-loop-place : goal.invariant-loop-place
invariant-loop-place l = WalkedFrom l.self l.sequence l.place l.met
