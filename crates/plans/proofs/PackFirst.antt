-- The first refusal of each packing call is first.
use Rattle.std.proofs.Common.{◌≡◌, ℕ, ◌<◌, ◌≤◌, true, cond, not, ◌&&◌, ◌||◌, eqb, ltb, leb, List, length, get_or, refl, ap, ◌∙◌, inl, inr, arith, lit≤}
use Rattle.std.proofs.lemmas.Bool.{eqb-false, ne_eqb, leb-true, le-leb, ltb-true, lt-ltb, and_from, and_parts, or_cases, or_left, or_right, not-true, cases_Bool}
use Rattle.plans.proofs.FirstRefusals.{Settles, settles_then, settles_all, settles_test, settles_place, settles_within, settles_last}
use Rattle.plans.specs.Kinds.{Kind, possible_side, pin_limit}
use Rattle.plans.specs.Numbers.{told_by_pack, told_by_pinned, told_by_rotation}
use Rattle.plans.specs.Packing.{Task}
use Rattle.plans.specs.PackingCalls.{wrong_side, pack_refusal, pin_refusal, rotation_refusal}
use Rattle.plans.specs.RefusalLaws.{rank_of_pack, rank_of_pinned, rank_of_rotation, Possible, PackApplies, PinnedApplies, RotationApplies, PackLaw}
use Rattle.plans.specs.declared.measures.Placed.{Placed}
use Rattle.plans.specs.declared.pack_refusals.PackRefusal.{PackRefusal}
use Rattle.plans.specs.declared.pack_refusals.PackRefusal.TheVariants.{WrongSides, ShortResults, WrongSide}
use Rattle.plans.specs.declared.pack_refusals.PinnedRefusal.{PinnedRefusal}
use Rattle.plans.specs.declared.pack_refusals.PinnedRefusal.TheVariants as pinned
use Rattle.plans.specs.declared.pack_refusals.RotationRefusal.{RotationRefusal}
use Rattle.plans.specs.declared.pack_refusals.RotationRefusal.TheVariants as rotation

-- a refusal of a packing by its rank and what it tells
abbrev pack_of : ℕ → ℕ → PackRefusal
pack_of n i = cond (eqb n 0) WrongSides (cond (eqb n 1) ShortResults (WrongSide i))

pack_of_lem : (f : PackRefusal) → f ≡ pack_of (rank_of_pack f) (get_or (told_by_pack f) 0 0)
pack_of_lem WrongSides = refl
pack_of_lem ShortResults = refl
pack_of_lem (WrongSide i) = refl

only_pack : (n : ℕ) (f : PackRefusal) → rank_of_pack f ≡ n → f ≡ pack_of n (get_or (told_by_pack f) 0 0)
only_pack n f e = pack_of_lem f ∙ ap (λ k. pack_of k (get_or (told_by_pack f) 0 0)) e

pack_below : (f : PackRefusal) → rank_of_pack f < 3
pack_below WrongSides = lit≤ tt
pack_below ShortResults = lit≤ tt
pack_below (WrongSide i) = lit≤ tt

-- a pinned refusal of a rank below 3 is one of any packing, and so with a rotation
pinned_pack : (f : PinnedRefusal) → rank_of_pinned f < 3 → (e : PackRefusal) × (f ≡ pinned.Packing e)
pinned_pack (pinned.Packing e) h = (e, refl)
pinned_pack pinned.NoModule h = absurd (omega arith)
pinned_pack pinned.FarPin h = absurd (omega arith)
pinned_pack pinned.NoPlace h = absurd (omega arith)

rotation_pack : (f : RotationRefusal) → rank_of_rotation f < 3 → (e : PackRefusal) × (f ≡ rotation.Packing e)
rotation_pack (rotation.Packing e) h = (e, refl)
rotation_pack rotation.NoModule h = absurd (omega arith)

only_pinned_module : (f : PinnedRefusal) → rank_of_pinned f ≡ 3 → f ≡ pinned.NoModule
only_pinned_module (pinned.Packing e) h = absurd (omega (arith, pack_below e))
only_pinned_module pinned.NoModule h = refl
only_pinned_module pinned.FarPin h = absurd (omega arith)
only_pinned_module pinned.NoPlace h = absurd (omega arith)

only_far : (f : PinnedRefusal) → rank_of_pinned f ≡ 4 → f ≡ pinned.FarPin
only_far (pinned.Packing e) h = absurd (omega (arith, pack_below e))
only_far pinned.NoModule h = absurd (omega arith)
only_far pinned.FarPin h = refl
only_far pinned.NoPlace h = absurd (omega arith)

only_rotated_module : (f : RotationRefusal) → rank_of_rotation f ≡ 3 → f ≡ rotation.NoModule
only_rotated_module (rotation.Packing e) h = absurd (omega (arith, pack_below e))
only_rotated_module rotation.NoModule h = refl

pinned_below : (f : PinnedRefusal) → rank_of_pinned f < 6
pinned_below (pinned.Packing e) = omega (arith, pack_below e)
pinned_below pinned.NoModule = lit≤ tt
pinned_below pinned.FarPin = lit≤ tt
pinned_below pinned.NoPlace = lit≤ tt

rotation_below : (f : RotationRefusal) → rank_of_rotation f < 4
rotation_below (rotation.Packing e) = omega (arith, pack_below e)
rotation_below rotation.NoModule = lit≤ tt

module _ {L : Type 0} (K : Kind L) (t : Task L) (results : List (Placed L)) where
  possible : (s : L) → possible_side K s ≡ true → Possible K s
  possible s e = let p = and_parts _ _ e in (leb-true _ _ p.0, leb-true _ _ p.1)

  is_possible : (s : L) → Possible K s → possible_side K s ≡ true
  is_possible s p = and_from _ _ (le-leb _ _ p.0) (le-leb _ _ p.1)

  wrong_side_lem :
      (w h : L) → not (possible_side K w && possible_side K h) ≡ true → Possible K w × Possible K h → ⊥
  wrong_side_lem w h e p =
      let a = and_from _ _ (is_possible w p.0) (is_possible h p.1) in
      let b = not-true _ e in
      absurd (grind arith)

  is_wrong : (w h : L) → (Possible K w × Possible K h → ⊥) → not (possible_side K w && possible_side K h) ≡ true
  is_wrong w h no_both =
      elim (cases_Bool (possible_side K w && possible_side K h)) [
        | inl e ↦ let p = and_parts _ _ e in absurd (no_both (possible w p.0, possible h p.1))
        | inr e ↦ ap not e
      ]

  pack_settles : Settles rank_of_pack told_by_pack (PackApplies K t results) 0 3 (pack_refusal K t results)
  pack_settles =
      settles_then rank_of_pack told_by_pack (PackApplies K t results) 0 1 3 _ _ (lit≤ tt) (lit≤ tt)
      (settles_test rank_of_pack told_by_pack (PackApplies K t results) 0 WrongSides
      (not (eqb (length t.sides) t.plan.size)) refl refl (only_pack 0) (λ e. eqb-false _ _ (not-true _ e))
      (λ x. ap not (ne_eqb _ _ x)))
      (settles_then rank_of_pack told_by_pack (PackApplies K t results) 1 2 3 _ _ (lit≤ tt) (lit≤ tt)
      (settles_test rank_of_pack told_by_pack (PackApplies K t results) 1 ShortResults (ltb (length results) t.plan.size) refl
      refl (only_pack 1) (λ e. ltb-true _ _ e) (λ x. lt-ltb _ _ x))
      (settles_place rank_of_pack told_by_pack (PackApplies K t results) 2 WrongSide t.plan.size (wrong_side K t.sides)
      (λ i. refl) (λ i. refl) (only_pack 2) (λ i h e. (h, wrong_side_lem _ _ e)) (λ i x. (x.0, is_wrong _ _ x.1))))

  module _ (a : ℕ) where
    rotation_settles :
        Settles rank_of_rotation told_by_rotation (RotationApplies K t results a) 0 4 (rotation_refusal K t results a)
    rotation_settles =
        settles_then rank_of_rotation told_by_rotation (RotationApplies K t results a) 0 3 4 _ _ (lit≤ tt) (lit≤ tt)
        (settles_within rank_of_pack told_by_pack (PackApplies K t results) rank_of_rotation told_by_rotation
        (RotationApplies K t results a) rotation.Packing 0 3 (λ e. refl) (λ e. refl) rotation_pack (λ e x. x) (λ e x. x)
        (pack_refusal K t results) pack_settles)
        (settles_test rank_of_rotation told_by_rotation (RotationApplies K t results a) 3 rotation.NoModule
        (leb t.plan.size a) refl refl only_rotated_module (λ e. leb-true _ _ e) (λ x. le-leb _ _ x))

    module _ (across up : L) where
      abbrev Applies : PinnedRefusal → Type 0
      Applies = PinnedApplies K t results a across up

      far : (ltb pin_limit (K.reach across) || ltb pin_limit (K.reach up)) ≡ true → Applies pinned.FarPin
      far e = elim (or_cases _ _ e) [ inl x ↦ inl (ltb-true _ _ x) | inr y ↦ inr (ltb-true _ _ y) ]

      is_far : Applies pinned.FarPin → (ltb pin_limit (K.reach across) || ltb pin_limit (K.reach up)) ≡ true
      is_far (inl x) = or_left _ _ (lt-ltb _ _ x)
      is_far (inr y) = or_right (ltb pin_limit (K.reach across)) (ltb pin_limit (K.reach up)) (lt-ltb _ _ y)

      last : (f : PinnedRefusal) → 5 ≤ rank_of_pinned f → Applies f → ⊥
      last (pinned.Packing e) h x = omega (arith, pack_below e)
      last pinned.NoModule h x = omega arith
      last pinned.FarPin h x = omega arith
      last pinned.NoPlace h x = x

      pin_settles : Settles rank_of_pinned told_by_pinned Applies 0 6 (pin_refusal K t results a across up)
      pin_settles =
          settles_last rank_of_pinned told_by_pinned Applies 0 5 6 _ (lit≤ tt) (lit≤ tt)
          (settles_then rank_of_pinned told_by_pinned Applies 0 3 5 _ _ (lit≤ tt) (lit≤ tt)
          (settles_within rank_of_pack told_by_pack (PackApplies K t results) rank_of_pinned told_by_pinned Applies pinned.Packing
          0 3 (λ e. refl) (λ e. refl) pinned_pack (λ e x. x) (λ e x. x) (pack_refusal K t results) pack_settles)
          (settles_then rank_of_pinned told_by_pinned Applies 3 4 5 _ _ (lit≤ tt) (lit≤ tt)
          (settles_test rank_of_pinned told_by_pinned Applies 3 pinned.NoModule (leb t.plan.size a) refl refl
          only_pinned_module (λ e. leb-true _ _ e) (λ x. le-leb _ _ x))
          (settles_test rank_of_pinned told_by_pinned Applies 4 pinned.FarPin
          (ltb pin_limit (K.reach across) || ltb pin_limit (K.reach up)) refl refl only_far far is_far)))
          last

-- each packing call answers its first refusal
pub pack_first : (L : Type 0) → PackLaw L
pack_first L =
    record {
      pack =
          λ K t results. settles_all rank_of_pack told_by_pack (PackApplies K t results) 0 3 (pack_refusal K t results)
          (λ f. (omega arith, pack_below f)) (pack_settles K t results);
      pinned =
          λ K t results a across up. settles_all rank_of_pinned told_by_pinned (PinnedApplies K t results a across up) 0 6
          (pin_refusal K t results a across up) (λ f. (omega arith, pinned_below f)) (pin_settles K t results a across up);
      rotated =
          λ K t results a. settles_all rank_of_rotation told_by_rotation (RotationApplies K t results a) 0 4
          (rotation_refusal K t results a) (λ f. (omega arith, rotation_below f)) (rotation_settles K t results a);
    }
