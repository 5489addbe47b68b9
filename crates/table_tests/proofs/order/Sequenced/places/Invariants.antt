-- The modules at the places below the counter have their places.
use Rattle.table_tests.proofs.PlaceMarks.{Written}
use Rattle.table_tests.proofs.order.Sequenced.places.Given as goal

abbrev pub invariant-loop-place : goal.invariant-loop-place
invariant-loop-place l = Written l.self.sequence.now l.place l.places
