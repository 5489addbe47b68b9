-- As many different numbers below a bound as the bound are all of them, and in rising order each is its place.
use Rattle.std.proofs.Common.{◌≡◌, ℕ, zero, suc, ◌+◌, ◌-◌, ◌<◌, ◌≤◌, cond, eqb, ◌≢◌, ◌⊎◌, sym, inl, inr, arith}
use Rattle.std.proofs.lemmas.Bool.{cases_eq}
use Rattle.std.proofs.lemmas.Bool.Decides.{nat_tests}

-- m different numbers below m
pub record Different (m : ℕ) (f : ℕ → ℕ) : Type 0 where
  pub below : (k : ℕ) → k < m → f k < m
  pub once : (k l : ℕ) → k < m → l < m → f k ≡ f l → k ≡ l

-- where f has n, the value at n instead
closed_up : (ℕ → ℕ) → ℕ → ℕ → ℕ
closed_up f n k = cond (eqb (f k) n) (f n) (f k)

closed_up_tells :
    (f : ℕ → ℕ) (n k : ℕ) → ((f k ≡ n) × (closed_up f n k ≡ f n)) ⊎ ((f k ≢ n) × (closed_up f n k ≡ f k))
unfolding closed_up
closed_up_tells f n k =
    elim (cases_eq (f k) n) [ inl e ↦ inl (e, grind (arith, nat_tests)) | inr e ↦ inr (e, grind (arith, nat_tests)) ]

fewer_different : (n : ℕ) (f : ℕ → ℕ) → Different (suc n) f → Different n (closed_up f n)
fewer_different n f d =
    record {
      below = λ k h.
          let b = d.below k (omega arith) in
          let e = d.below n (omega arith) in
          let o = d.once k n (omega arith) (omega arith) in
          let t = closed_up_tells f n k in
          grind arith;
      once = λ k l h i e.
          let o = d.once k l (omega arith) (omega arith) in
          let p = d.once k n (omega arith) (omega arith) in
          let q = d.once l n (omega arith) (omega arith) in
          let t = closed_up_tells f n k in
          let u = closed_up_tells f n l in
          grind arith;
    }

-- where f has x
Found : ℕ → (ℕ → ℕ) → ℕ → Type 0
Found m f x = (k : ℕ) × (k < m) × (f k ≡ x)

found_more :
    (n : ℕ) (f : ℕ → ℕ) → Different (suc n) f → ((x : ℕ) → x < n → Found n (closed_up f n) x)
    → (x : ℕ) → x < suc n → x ≢ f n → Found (suc n) f x
unfolding Found
found_more n f d ih x h ne =
    elim (cases_eq x n) [
      | inl top ↦
          let b = d.below n (omega arith) in
          let (k, l, e) = ih (f n) (omega arith) in
          let t = closed_up_tells f n k in
          let o = d.once k n (omega arith) (omega arith) in
          (k, omega arith, grind arith)
      | inr other ↦
          let (k, l, e) = ih x (omega (arith, other)) in
          let t = closed_up_tells f n k in
          (k, omega arith, grind arith)
    ]

-- m different numbers below m are all the numbers below m
pub all_found : (m : ℕ) (f : ℕ → ℕ) → Different m f → (x : ℕ) → x < m → (k : ℕ) × (k < m) × (f k ≡ x)
unfolding Found
all_found zero f d x h = absurd (omega arith)
all_found (suc n) f d x h =
    elim (cases_eq x (f n)) [
      | inl same ↦ (n, omega arith, sym same)
      | inr other ↦ found_more n f d (all_found n (closed_up f n) (fewer_different n f d)) x h other
    ]

-- a rising run of m numbers below m
pub record Rising (m : ℕ) (f : ℕ → ℕ) : Type 0 where
  pub below : (k : ℕ) → k < m → f k < m
  pub rises : (k l : ℕ) → k < l → l < m → f k < f l

rising_low : (m : ℕ) (f : ℕ → ℕ) → Rising m f → (k : ℕ) → k < m → k ≤ f k
rising_low m f r zero h = omega arith
rising_low m f r (suc k) h =
    let ih = rising_low m f r k (omega arith) in
    let e = r.rises k (suc k) (omega arith) h in
    omega arith

rising_room : (m : ℕ) (f : ℕ → ℕ) → Rising m f → (k d : ℕ) → k + d < m → f k + d < m
rising_room m f r k zero h = let e = r.below k (omega arith) in omega arith
rising_room m f r k (suc d) h =
    let ih = rising_room m f r (suc k) d (omega arith) in
    let e = r.rises k (suc k) (omega arith) (omega arith) in
    omega arith

-- leaves each number at its place
pub rising_same : (m : ℕ) (f : ℕ → ℕ) → Rising m f → (k : ℕ) → k < m → f k ≡ k
rising_same m f r k h =
    let low = rising_low m f r k h in
    let room = rising_room m f r k (m - suc k) (omega arith) in
    omega arith
