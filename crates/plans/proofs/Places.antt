-- The place of a number in a list of different numbers, and how often a number stands in a list.
use Rattle.std.proofs.Common.{◌≡◌, ℕ, zero, suc, ◌<◌, ◌≤◌, ◌≢◌, ◌⊎◌, List, [], ◌∷◌, length, get_or, sym, refl, ◌∙◌, subst, inl, inr, arith}
use Rattle.std.proofs.lemmas.Bool.{cases_eq, eq-eqb, ne_eqb}
use Rattle.std.proofs.lemmas.Bool.Decides.{nat_tests}
use Rattle.plans.proofs.Pigeonhole.{Different, all_found}
use Rattle.plans.specs.Published.{times_in}
use Rattle.plans.specs.Search.{place_of}

-- a number that stands in a list stands at its first place
pub place_found :
    (xs : List ℕ) (k : ℕ) → k < length xs → (place_of xs (get_or xs k 0) < length xs) × (get_or xs (place_of xs (get_or xs k 0)) 0 ≡ get_or xs k 0)
place_found [] k h = absurd (omega arith)
place_found (x ∷ xs) zero h = rw (eq-eqb x x refl) (omega arith, refl)
place_found (x ∷ xs) (suc k) h = go (place_found xs k (omega arith)) (cases_eq x (get_or xs k 0))
  where
    y : ℕ
    y = get_or xs k 0

    go :
        (place_of xs y < length xs) × (get_or xs (place_of xs y) 0 ≡ y) → (x ≡ y) ⊎ (x ≡ y → ⊥)
        → (place_of (x ∷ xs) y < suc (length xs)) × (get_or (x ∷ xs) (place_of (x ∷ xs) y) 0 ≡ y)
    go ih (inl e) = rw (eq-eqb x y e) (omega arith, e)
    go ih (inr e) = rw (ne_eqb x y e) (omega (arith, ih.0), ih.1)

module _ (m : ℕ) (s : List ℕ) (long : length s ≡ m) (different : Different m (λ k. get_or s k 0)) where
  -- each number below m stands at its place
  pub place_of_module : (x : ℕ) → x < m → (place_of s x < m) × (get_or s (place_of s x) 0 ≡ x)
  place_of_module x h =
      let (k, i, e) = all_found m (λ k. get_or s k 0) different x h in
      let found = place_found s k (omega (arith, long)) in
      rw long at (subst (λ y. (place_of s y < length s) × (get_or s (place_of s y) 0 ≡ y)) e found)

  -- and the place of the number at k is k
  pub place_at : (k : ℕ) → k < m → place_of s (get_or s k 0) ≡ k
  place_at k h =
      let found = place_of_module (get_or s k 0) (different.below k h) in
      different.once (place_of s (get_or s k 0)) k found.0 h found.1

-- an entry stands at least once
pub times_some : (s : List ℕ) (k : ℕ) → k < length s → 1 ≤ times_in s (get_or s k 0)
times_some [] k h = absurd (omega arith)
times_some (x ∷ xs) zero h = grind (arith, nat_tests)
times_some (x ∷ xs) (suc k) h = let ih = times_some xs k (omega arith) in grind (arith, nat_tests)

-- at two places, at least twice
pub times_twice :
    (s : List ℕ) (k l : ℕ) → k < l → l < length s → get_or s k 0 ≡ get_or s l 0 → 2 ≤ times_in s (get_or s l 0)
times_twice [] k l h g e = absurd (omega arith)
times_twice (x ∷ xs) k zero h g e = absurd (omega arith)
times_twice (x ∷ xs) zero (suc l) h g e = let t = times_some xs l (omega arith) in grind (arith, nat_tests)
times_twice (x ∷ xs) (suc k) (suc l) h g e =
    let ih = times_twice xs k l (omega arith) (omega arith) e in
    grind (arith, nat_tests)

-- what stands nowhere is there no times
pub times_none : (s : List ℕ) (x : ℕ) → ((k : ℕ) → k < length s → get_or s k 0 ≢ x) → times_in s x ≡ 0
times_none [] x h = refl
times_none (y ∷ ys) x h =
    let e = h 0 (omega arith) in
    let ih = times_none ys x (λ k g. h (suc k) (omega arith)) in
    grind (arith, nat_tests)

-- in a list with no entry twice, each stands at most once
pub times_once :
    (s : List ℕ) (x : ℕ) → ((k l : ℕ) → k < l → l < length s → get_or s k 0 ≢ get_or s l 0) → times_in s x ≤ 1
times_once [] x h = omega arith
times_once (y ∷ ys) x h =
    let ih = times_once ys x (λ k l a b. h (suc k) (suc l) (omega arith) (omega arith)) in
    elim (cases_eq y x) [
      | inl same ↦
          let n = times_none ys x (λ k g e. h 0 (suc k) (omega arith) (omega arith) (same ∙ sym e)) in
          grind (arith, nat_tests)
      | inr other ↦ grind (arith, nat_tests)
    ]

-- what stands nowhere has the length for its place
pub place_none : (s : List ℕ) (x : ℕ) → ((k : ℕ) → k < length s → get_or s k 0 ≢ x) → place_of s x ≡ length s
place_none [] x h = refl
place_none (y ∷ ys) x h =
    let e = h 0 (omega arith) in
    let ih = place_none ys x (λ k g. h (suc k) (omega arith)) in
    grind (arith, nat_tests)
