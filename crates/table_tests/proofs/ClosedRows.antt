-- That a graph is closed at a module, found by passing over what its successors lead to.
use Rattle.std.proofs.Common.{◌≡◌, ℕ, ◌<◌, ◌≢◌, true, false, not, ◌&&◌, Some, eqb, sym, refl, ap, ◌∙◌, inl, inr}
use Rattle.std.proofs.lemmas.Bool.{cases_Bool, true≢false, and_parts, cases_eq, eq-eqb, ne_eqb}
use Rattle.graphs.specs.Edges.{edge}
use Rattle.graphs.specs.declared.graph.Graph.{Graph}
use Rattle.module_set.proofs.Membership.{member_in_set, in_set_from}
use Rattle.module_set.proofs.Taking.{least_in}
use Rattle.module_set.specs.Members.{member, in_set, least_member, member_count}
use Rattle.module_set.specs.declared.set.ModuleSet.{ModuleSet}
use Rattle.plans.proofs.Searches.{count_less}
use Rattle.table_tests.specs.Walked.{ClosedAt}

-- what is left to look at are successors of i, and i has an edge to all that its others lead to
pub record LeftAt (g : Graph) (i : ℕ) (rest : ModuleSet) : Type 0 where
  pub inside : (j : ℕ) → member rest j ≡ true → edge g i j ≡ true
  pub covered : (j k : ℕ) → edge g i j ≡ true → member rest j ≡ false → edge g j k ≡ true → edge g i k ≡ true

-- of a successor j of i
module _ (g : Graph) (i j : ℕ) (own beyond : ModuleSet) (own_is : (k : ℕ) → member own k ≡ edge g i k)
    (beyond_is : (k : ℕ) → member beyond k ≡ edge g j k) where
  -- where it leads further than i, the graph is not closed at i
  pub open_at : edge g i j ≡ true → in_set beyond own ≡ false → ClosedAt g i → ⊥
  open_at here outside closed =
      true≢false (sym (in_set_from beyond own (λ k h. own_is k ∙ closed j k here (sym (beyond_is k) ∙ h))) ∙ outside)

  -- and else it is passed over with all that it leads to
  module _ (rest taken left : ModuleSet) (least : Some j ≡ least_member rest)
      (taken_is : (k : ℕ) → member taken k ≡ (member rest k && not (eqb k j)))
      (left_is : (k : ℕ) → member left k ≡ (member taken k && not (member beyond k))) where
    left_before : (k : ℕ) → member left k ≡ true → (member rest k ≡ true) × (not (eqb k j) ≡ true)
    left_before k h =
        let both = and_parts (member taken k) (not (member beyond k)) (sym (left_is k) ∙ h) in
        and_parts (member rest k) (not (eqb k j)) (sym (taken_is k) ∙ both.0)

    taken_out : member left j ≡ false
    taken_out =
        elim (cases_Bool (member left j)) [
          | inl there ↦ absurd (true≢false (sym (left_before j there).1 ∙ ap not (eq-eqb j j refl)))
          | inr out ↦ out
        ]

    pub fewer_rows : member_count left < member_count rest
    unfolding member_count
    fewer_rows =
        let (small, has) = least_in rest j least in
        count_less 64 (member left) (member rest) j small taken_out has (λ k h m. (left_before k m).0)

    led_to : (k : ℕ) → member rest k ≡ true → member left k ≡ false → k ≢ j → edge g j k ≡ true
    led_to k there out other =
        elim (cases_Bool (member beyond k)) [
          | inl led ↦ sym (beyond_is k) ∙ led
          | inr beside ↦
              let kept : member taken k ≡ true = taken_is k ∙ rw (there, ne_eqb k j other) refl in
              let stays : member left k ≡ true = left_is k ∙ rw (kept, beside) refl in
              absurd (true≢false (sym stays ∙ out))
        ]

    pub left_more : LeftAt g i rest → ClosedAt g j → in_set beyond own ≡ true → LeftAt g i left
    left_more before closed within = record {
      inside = λ k h. before.inside k (left_before k h).0;
      covered = λ k l here out next.
          elim (cases_Bool (member rest k)) [
            | inr passed ↦ before.covered k l here passed next
            | inl there ↦
                elim (cases_eq k j) [
                  | inl same ↦ reach l (ap (λ n. edge g n l) (sym same) ∙ next)
                  | inr other ↦ reach l (closed k l (led_to k there out other) next)
                ]
          ];
    }
      where
        reach : (l : ℕ) → edge g j l ≡ true → edge g i l ≡ true
        reach l h = sym (own_is l) ∙ member_in_set beyond own l within (beyond_is l ∙ h)
