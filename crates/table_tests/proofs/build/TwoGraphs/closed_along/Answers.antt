-- Each place is walked, or shows that the sequence is not.
use Rattle.std.proofs.Common.{◌≡◌, ◌+◌, ◌-◌, ◌<◌, length, sym, refl, ◌∙◌, arith}
use Rattle.std.proofs.lemmas.Bool.{true≢false, false≢true}
use Rattle.table_tests.proofs.Standing.{none_standing}
use Rattle.table_tests.proofs.WalkSteps.{met_closed, walk_more, walked_on}
use Rattle.table_tests.specs.Walked.{Walked}
use Rattle.table_tests.proofs.build.TwoGraphs.closed_along.Goals as goal
use Rattle.table_tests.proofs.build.TwoGraphs.closed_along.Goals.{then-module-sequence-via-then-module-sequence, then-module-sequence-via-else-module-sequence+then-not-goes_on}

pub goes_on-requires : goal.goes_on-requires
goes_on-requires c =
    record { closed = met_closed c.args.self.now c.args.sequence.now c.loop-place.place c.loop-place.met c.loop-place.invariant }

pub returns-then-module-sequence : goal.returns-then-module-sequence
returns-then-module-sequence c =
    let two = c.args.self.now in
    let s = c.args.sequence.now in
    let k = c.loop-place.place - 1 in
    let next : c.loop-place.place ≡ k + 1 = omega arith in
    let here : k < length s = omega arith in
    let refuted : Walked two s → ⊥ =
    λ walked.
    elim c.then-module-sequence.branch [
      | then-module-sequence-via-then-module-sequence w ↦
          let inside = (walked k here).names_module in omega (arith, w.if-module-sequence.true)
      | then-module-sequence-via-else-module-sequence+then-not-goes_on w ↦
          let on = walked_on two s k c.loop-place.place c.loop-place.met next here c.loop-place.invariant walked in
          true≢false (sym (w.goes_on.ensures.1 on) ∙ w.if-not-goes_on.true)
    ]
    in
    (λ e. absurd (false≢true e), λ walked. absurd (refuted walked))

pub loop-place-init : goal.loop-place-init
loop-place-init c = record {
  standing = λ j.
      c.empty-met.ensures j ∙ sym (none_standing c.args.sequence.now (length c.args.sequence.now) j (omega arith));
  walked = λ l after inside. absurd (omega arith);
}

pub loop-place-preserved : goal.loop-place-preserved
loop-place-preserved c =
    let k = c.loop-place.place - 1 in
    walk_more c.args.self.now c.args.sequence.now k c.loop-place.place c.loop-place.met (omega arith) (omega arith)
    c.loop-place.invariant c.with-met.result c.requires.few (omega arith) (c.goes_on.ensures.0 c.if-not-goes_on.false)
    c.with-met.ensures

pub returns : goal.returns
returns c = (λ _ k inside. c.loop-place.invariant.walked k (omega arith) inside, λ _. refl)
