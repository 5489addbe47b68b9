-- The latest of the lengths of the chosen numbers below a bound: their least upper bound, in whatever order it is taken.
use Rattle.std.proofs.Common.{◌≡◌, ℕ, zero, suc, ◌<◌, ◌≤◌, Bool, true, false, cond, ◌⊎◌, List, [], ◌∷◌, length, get_or, refl, ◌∙◌, inl, inr, arith}
use Rattle.std.proofs.lemmas.Bool.{cases_eq, cases_Bool, cond_both}
use Rattle.plans.specs.Axes.{latest}
use Rattle.plans.specs.Kinds.{Kind, AtMost, SumLaws, JoinLaws}
use Rattle.plans.specs.LaterOfTwo.{Picks, latest_onto}

-- the latest, by whether the last number is chosen
module _ {L : Type 0} (K : Kind L) (chosen : ℕ → Bool) (f : ℕ → L) where
  latest_taken : (n : ℕ) → chosen n ≡ true → latest K chosen f (suc n) ≡ K.later (latest K chosen f n) (f n)
  latest_taken n e = rw e refl

  latest_passed : (n : ℕ) → chosen n ≡ false → latest K chosen f (suc n) ≡ latest K chosen f n
  latest_passed n e = rw e refl

-- the same choices of the same lengths have the same latest
pub latest_same :
    {L : Type 0} (K : Kind L) (p q : ℕ → Bool) (f g : ℕ → L) (n : ℕ) → ((j : ℕ) → j < n → p j ≡ q j)
    → ((j : ℕ) → j < n → p j ≡ true → f j ≡ g j) → latest K p f n ≡ latest K q g n
latest_same K p q f g zero c e = refl
latest_same K p q f g (suc n) c e =
    let ih = latest_same K p q f g n (λ j h. c j (omega arith)) (λ j h. e j (omega arith)) in
    let s = c n (omega arith) in
    elim (cases_Bool (p n)) [
      | inl t ↦ let h = e n (omega arith) t in rw (← s, t, ih, h) refl
      | inr t ↦ rw (← s, t, ih) refl
    ]

module _ {L : Type 0} (K : Kind L) (sum : SumLaws K) (join : JoinLaws K) (chosen : ℕ → Bool) (f : ℕ → L) where
  -- each chosen length is at most the latest
  pub latest_covers : (n j : ℕ) → j < n → chosen j ≡ true → AtMost K (f j) (latest K chosen f n)
  latest_covers zero j h c = absurd (omega arith)
  latest_covers (suc n) j h c =
      elim (cases_eq j n) [
        | inl same ↦
            let t : chosen n ≡ true = rw same at c in
            rw (latest_taken K chosen f n t, same) (join.right (latest K chosen f n) (f n))
        | inr other ↦
            let ih = latest_covers n j (omega (arith, other)) c in
            elim (cases_Bool (chosen n)) [
              | inl t ↦
                  let others = latest K chosen f n in
                  rw (latest_taken K chosen f n t)
                  (sum.transitive (f j) others (K.later others (f n)) ih (join.left others (f n)))
              | inr t ↦ rw (latest_passed K chosen f n t) ih
            ]
      ]

  -- the latest is at most all that every chosen length is at most
  pub latest_least :
      (n : ℕ) (bound : L) → ((j : ℕ) → j < n → chosen j ≡ true → AtMost K (f j) bound)
      → AtMost K (latest K chosen f n) bound
  latest_least zero bound h = sum.starts bound
  latest_least (suc n) bound h =
      let ih = latest_least n bound (λ j l. h j (omega arith)) in
      elim (cases_Bool (chosen n)) [
        | inl t ↦ rw (latest_taken K chosen f n t) (join.least (latest K chosen f n) (f n) bound ih (h n (omega arith) t))
        | inr t ↦ rw (latest_passed K chosen f n t) ih
      ]

  -- and extends no further than the chosen lengths
  pub latest_extent :
      (n bound : ℕ) → ((j : ℕ) → j < n → chosen j ≡ true → K.reach (f j) ≤ bound)
      → K.reach (latest K chosen f n) ≤ bound
  latest_extent zero bound h = omega (arith, sum.empty)
  latest_extent (suc n) bound h =
      let ih = latest_extent n bound (λ j l. h j (omega arith)) in
      elim (cases_Bool (chosen n)) [
        | inl t ↦
            let g = h n (omega arith) t in
            rw (latest_taken K chosen f n t, join.extents (latest K chosen f n) (f n)) (omega arith)
        | inr t ↦ rw (latest_passed K chosen f n t) ih
      ]

  -- whatever else is a least upper bound of the chosen lengths is the latest
  pub latest_only :
      (n : ℕ) (v : L) → ((j : ℕ) → j < n → chosen j ≡ true → AtMost K (f j) v)
      → ((bound : L) → ((j : ℕ) → j < n → chosen j ≡ true → AtMost K (f j) bound) → AtMost K v bound)
      → v ≡ latest K chosen f n
  latest_only n v above least =
      sum.antisymmetric v (latest K chosen f n) (least (latest K chosen f n) (λ j h c. latest_covers n j h c)) (latest_least n v above)

-- where each length is at most another, so is the latest of them
pub latest_later :
    {L : Type 0} (K : Kind L) (sum : SumLaws K) (join : JoinLaws K) (chosen : ℕ → Bool) (f g : ℕ → L) (n : ℕ)
    → ((j : ℕ) → j < n → chosen j ≡ true → AtMost K (f j) (g j)) → AtMost K (latest K chosen f n) (latest K chosen g n)
latest_later K sum join chosen f g n h =
    latest_least K sum join chosen f n (latest K chosen g n)
    (λ j l c. sum.transitive (f j) (g j) (latest K chosen g n) (h j l c) (latest_covers K sum join chosen g n j l c))

-- the latest is zero or one of the chosen, where the later of two is one of the two
pub latest_picks :
    {L : Type 0} (K : Kind L) (picks : Picks K) (chosen : ℕ → Bool) (f : ℕ → L) (n : ℕ)
    → (latest K chosen f n ≡ K.origin) ⊎ ((j : ℕ) × (j < n) × (chosen j ≡ true) × (latest K chosen f n ≡ f j))
latest_picks K picks chosen f zero = inl refl
latest_picks K picks chosen f (suc n) =
    elim (cases_Bool (chosen n)) [
      | inl t ↦
          elim (picks (latest K chosen f n) (f n)) [
            | inl e ↦ before (latest_taken K chosen f n t ∙ e) (latest_picks K picks chosen f n)
            | inr e ↦ inr (n, omega arith, t, latest_taken K chosen f n t ∙ e)
          ]
      | inr t ↦ before (latest_passed K chosen f n t) (latest_picks K picks chosen f n)
    ]
  where
    before :
        latest K chosen f (suc n) ≡ latest K chosen f n
        → (latest K chosen f n ≡ K.origin) ⊎ ((j : ℕ) × (j < n) × (chosen j ≡ true) × (latest K chosen f n ≡ f j))
        → (latest K chosen f (suc n) ≡ K.origin)
        ⊎ ((j : ℕ) × (j < suc n) × (chosen j ≡ true) × (latest K chosen f (suc n) ≡ f j))
    before e (inl r) = inl (e ∙ r)
    before e (inr r) = inr (r.0, omega (arith, r.1), r.2, e ∙ r.3)

module _ {L : Type 0} (K : Kind L) (sum : SumLaws K) (join : JoinLaws K) (chosen : ℕ → Bool) (f : ℕ → L) where
  -- one entry more: by whether it is chosen
  with_entry :
      (P : L → Type 0) (sofar : L) (j : ℕ) → (chosen j ≡ true → P (K.later sofar (f j)))
      → (chosen j ≡ false → P sofar) → P (cond (chosen j) (K.later sofar (f j)) sofar)
  with_entry P sofar j taken passed = cond_both (chosen j) (K.later sofar (f j)) sofar P taken passed

  -- along a list, the start and each chosen length are at most the latest
  onto_starts : (sofar : L) (js : List ℕ) → AtMost K sofar (latest_onto K chosen f sofar js)
  onto_starts sofar [] = sum.reflexive sofar
  onto_starts sofar (j ∷ js) =
      let next = cond (chosen j) (K.later sofar (f j)) sofar in
      sum.transitive sofar next (latest_onto K chosen f next js)
      (with_entry (λ v. AtMost K sofar v) sofar j (λ _. join.left sofar (f j)) (λ _. sum.reflexive sofar))
      (onto_starts next js)

  onto_covers :
      (sofar : L) (js : List ℕ) (k : ℕ) → k < length js → chosen (get_or js k 0) ≡ true
      → AtMost K (f (get_or js k 0)) (latest_onto K chosen f sofar js)
  onto_covers sofar [] k h c = absurd (omega arith)
  onto_covers sofar (j ∷ js) zero h c =
      let next = cond (chosen j) (K.later sofar (f j)) sofar in
      sum.transitive (f j) next (latest_onto K chosen f next js) (rw c (join.right sofar (f j))) (onto_starts next js)
  onto_covers sofar (j ∷ js) (suc k) h c =
      onto_covers (cond (chosen j) (K.later sofar (f j)) sofar) js k (omega arith) c

  -- and the latest is at most all that those are at most
  onto_least :
      (sofar : L) (js : List ℕ) (bound : L) → AtMost K sofar bound
      → ((k : ℕ) → k < length js → chosen (get_or js k 0) ≡ true → AtMost K (f (get_or js k 0)) bound)
      → AtMost K (latest_onto K chosen f sofar js) bound
  onto_least sofar [] bound s h = s
  onto_least sofar (j ∷ js) bound s h =
      onto_least (cond (chosen j) (K.later sofar (f j)) sofar) js bound
      (with_entry (λ v. AtMost K v bound) sofar j (λ c. join.least sofar (f j) bound s (h 0 (omega arith) c)) (λ _. s))
      (λ k l c. h (suc k) (omega arith) c)

  -- along a list that names each chosen number below n, and no other that is chosen, the latest is the same
  pub latest_along :
      (n : ℕ) (js : List ℕ) → ((j : ℕ) → j < n → chosen j ≡ true → (k : ℕ) × (k < length js) × (get_or js k 0 ≡ j))
      → ((k : ℕ) → k < length js → chosen (get_or js k 0) ≡ true → get_or js k 0 < n)
      → latest_onto K chosen f K.origin js ≡ latest K chosen f n
  latest_along n js named within =
      latest_only K sum join chosen f n (latest_onto K chosen f K.origin js)
      (λ j h c.
      let k = named j h c in
      rw k.2 at (onto_covers K.origin js k.0 k.1 (rw k.2 c)))
      (λ bound above.
      onto_least K.origin js bound (sum.starts bound) (λ k h c. above (get_or js k 0) (within k h c) c))
