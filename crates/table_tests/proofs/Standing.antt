-- Which modules stand from a place of a sequence on, one place after another.
use Rattle.std.proofs.Common.{◌≡◌, ℕ, ◌+◌, ◌<◌, ◌≤◌, Bool, true, false, ◌&&◌, ◌||◌, eqb, leb, List, length, get_or, sym, refl, ap, ◌∙◌, inl, inr, arith}
use Rattle.std.proofs.lemmas.Bool.{cases_eq, true≢false, and_parts, or_cases, leb-true, eqb-true, le-leb, eq-eqb}
use Rattle.std.proofs.lemmas.Bool.Decides.{nat_tests, same_from_decides}
use Rattle.plans.proofs.Searches.{some_tells, some_from, none_from}
use Rattle.table_tests.specs.Walked.{stands_from}

-- what stands at a place stands from any earlier one on
pub standing_at : (s : List ℕ) (k l j : ℕ) → k ≤ l → l < length s → get_or s l 0 ≡ j → stands_from s k j ≡ true
standing_at s k l j h g is =
    some_from (length s) (λ n. leb k n && eqb (get_or s n 0) j) l g (rw (le-leb k l h, eq-eqb (get_or s l 0) j is) refl)

-- and what stands from a place on has a place there
pub place_standing :
    (s : List ℕ) (k j : ℕ) → stands_from s k j ≡ true → (l : ℕ) × (k ≤ l) × (l < length s) × (get_or s l 0 ≡ j)
place_standing s k j e =
    elim (some_tells (length s) (λ n. leb k n && eqb (get_or s n 0) j)) [
      | inl r ↦
          let both = and_parts (leb k r.1.0) (eqb (get_or s r.1.0 0) j) r.1.2 in
          (r.1.0, leb-true k r.1.0 both.0, r.1.1, eqb-true (get_or s r.1.0 0) j both.1)
      | inr r ↦ absurd (true≢false (sym e ∙ r.0))
    ]

-- nothing stands past the end
pub none_standing : (s : List ℕ) (k j : ℕ) → length s ≤ k → stands_from s k j ≡ false
none_standing s k j end =
    none_from (length s) (λ n. leb k n && eqb (get_or s n 0) j) (λ n h. grind (arith, nat_tests))

-- one place more
pub standing_more :
    (s : List ℕ) (k j : ℕ) → k < length s → (stands_from s (k + 1) j || eqb j (get_or s k 0)) ≡ stands_from s k j
standing_more s k j here =
    same_from_decides (stands_from s (k + 1) j || eqb j (get_or s k 0)) (stands_from s k j) (earlier, later)
    (λ e. e, λ e. e)
  where
    earlier : (stands_from s (k + 1) j || eqb j (get_or s k 0)) ≡ true → stands_from s k j ≡ true
    earlier e =
        elim (or_cases (stands_from s (k + 1) j) (eqb j (get_or s k 0)) e) [
          | inl stands ↦
              let (l, h, g, is) = place_standing s (k + 1) j stands in
              standing_at s k l j (omega arith) g is
          | inr is ↦ standing_at s k k j (omega arith) here (sym (eqb-true j (get_or s k 0) is))
        ]

    or_true : (b : Bool) → (b || true) ≡ true
    or_true true = refl
    or_true false = refl

    later : stands_from s k j ≡ true → (stands_from s (k + 1) j || eqb j (get_or s k 0)) ≡ true
    later e =
        let (l, h, g, is) = place_standing s k j e in
        elim (cases_eq l k) [
          | inl same ↦
              let here : eqb j (get_or s k 0) ≡ true = eq-eqb j (get_or s k 0) (sym is ∙ ap (λ n. get_or s n 0) same) in
              rw here (or_true (stands_from s (k + 1) j))
          | inr other ↦ rw (standing_at s (k + 1) l j (omega (arith, other)) g is) refl
        ]
