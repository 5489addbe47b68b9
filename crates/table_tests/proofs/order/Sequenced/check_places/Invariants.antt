-- The modules at the places below the counter are met, and no such place is wrong.
use Rattle.std.proofs.Common.{◌≡◌, ℕ, ◌<◌, false, ◌&&◌, ltb}
use Rattle.module_set.specs.Members.{member}
use Rattle.plans.specs.Tests.{place_wrong}
use Rattle.table_tests.proofs.PlaceMarks.{met_below}
use Rattle.table_tests.proofs.order.Sequenced.check_places.Given as goal

abbrev pub invariant-loop-place : goal.invariant-loop-place
invariant-loop-place l =
    ((x : ℕ) → member l.met x ≡ (ltb x 64 && met_below l.self.sequence.now l.place x))
    × ((n : ℕ) → n < l.place → place_wrong l.self.sequence.now n ≡ false)
