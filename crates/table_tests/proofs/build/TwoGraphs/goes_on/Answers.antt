-- The edges lead to what is met where each set is in the other, and then both graphs are closed at what they lead to.
use Rattle.std.proofs.Common.{◌≡◌, Bool, true, false, ◌||◌, sym, refl, ◌∙◌}
use Rattle.std.proofs.lemmas.Bool.{true≢false, false≢true}
use Rattle.module_set.specs.Members.{member}
use Rattle.table_tests.proofs.WalkSteps.{edges_exact, exact_forth, exact_back, successors_closed}
use Rattle.table_tests.specs.Walked.{GoesOn}
use Rattle.table_tests.proofs.build.TwoGraphs.goes_on.Goals as goal
use Rattle.table_tests.proofs.build.TwoGraphs.goes_on.Goals.{then-not-is_subset-via-then-not-is_subset, then-not-is_subset-via-else-not-is_subset+then-not-is_subset-2}

or_second : (a b : Bool) → b ≡ true → (a || b) ≡ true
or_second true b e = refl
or_second false b e = e

pub returns-then-not-is_subset : goal.returns-then-not-is_subset
returns-then-not-is_subset c =
    let refuted : GoesOn c.args.self.now c.args.i (member c.args.met) → ⊥ =
    λ on.
    elim c.then-not-is_subset.branch [
      | then-not-is_subset-via-then-not-is_subset w ↦
          true≢false
          (sym
          (exact_forth c.args.self.now c.args.i c.successors.result c.successors-2.result c.union-to.result c.args.met
          c.successors.ensures c.successors-2.ensures c.union-to.ensures on.exactly)
          ∙ sym c.is_subset.ensures ∙ w.if-not-is_subset.true)
      | then-not-is_subset-via-else-not-is_subset+then-not-is_subset-2 w ↦
          true≢false
          (sym
          (exact_back c.args.self.now c.args.i c.successors.result c.successors-2.result c.union-to.result c.args.met
          c.successors.ensures c.successors-2.ensures c.union-to.ensures on.exactly)
          ∙ sym w.is_subset-else-not-is_subset.ensures ∙ w.if-not-is_subset-2.true)
    ]
    in
    (λ e. absurd (false≢true e), λ on. absurd (refuted on))

pub is_closed_at-requires : goal.is_closed_at-requires
is_closed_at-requires c = record {
  closed = λ j h.
      (successors_closed c.args.self.now c.args.i c.successors.result c.successors-2.result c.union-to.result c.args.met
      c.successors.ensures c.successors-2.ensures c.union-to.ensures (sym c.is_subset.ensures ∙ c.if-not-is_subset.false)
      c.requires.closed j (rw h refl)).0;
}

pub is_closed_at-requires-then-is_closed_at : goal.is_closed_at-requires-then-is_closed_at
is_closed_at-requires-then-is_closed_at c = record {
  closed = λ j h.
      (successors_closed c.args.self.now c.args.i c.successors.result c.successors-2.result c.union-to.result c.args.met
      c.successors.ensures c.successors-2.ensures c.union-to.ensures (sym c.is_subset.ensures ∙ c.if-not-is_subset.false)
      c.requires.closed j (or_second _ _ h)).1;
}

pub returns-then-is_closed_at : goal.returns-then-is_closed_at
returns-then-is_closed_at c = (
  λ e. record {
    exactly =
        edges_exact c.args.self.now c.args.i c.successors.result c.successors-2.result c.union-to.result c.args.met
        c.successors.ensures c.successors-2.ensures c.union-to.ensures (sym c.is_subset.ensures ∙ c.if-not-is_subset.false)
        (sym c.is_subset-else-not-is_subset.ensures ∙ c.if-not-is_subset-2.false);
    closed = (c.is_closed_at.ensures.0 c.if-is_closed_at.true, c.is_closed_at-then-is_closed_at.ensures.0 e);
  },
  λ on. c.is_closed_at-then-is_closed_at.ensures.1 on.closed.1,
)
