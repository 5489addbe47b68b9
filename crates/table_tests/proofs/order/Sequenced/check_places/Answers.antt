-- A place is wrong where its number is no module or one that was met.
use Rattle.std.proofs.Common.{◌≡◌, true, Some, None, sym, ◌∙◌, arith, get_or}
use Rattle.plans.specs.Tests.{place_wrong}
use Rattle.table_tests.proofs.PlaceMarks.{wrong_beyond, wrong_met, told_place}
use Rattle.table_tests.proofs.order.Sequenced.check_places.Goals as goal
use Rattle.table_tests.proofs.order.Sequenced.check_places.Goals.{then-module-self-via-then-module-self, then-module-self-via-else-module-self+then-contains}

pub returns-then-module-self : goal.returns-then-module-self
returns-then-module-self c =
    let s = c.args.self.sequence.now in
    let k = c.loop-place.place in
    let wrong : place_wrong s k ≡ true =
    elim c.then-module-self.branch [
      | then-module-self-via-then-module-self w ↦ wrong_beyond s k w.if-module-self.true
      | then-module-self-via-else-module-self+then-contains w ↦
          wrong_met s k w.if-module-self.false (omega arith) true
          (sym w.if-contains.true ∙ w.contains.ensures ∙ c.loop-place.invariant.0 (get_or s k 0))
    ]
    in
    told_place s (Some k) (c.loop-place-test.true, wrong, c.loop-place.invariant.1)

pub returns : goal.returns
returns c =
    told_place c.args.self.sequence.now None (λ l h. c.loop-place.invariant.1 l (omega arith))
