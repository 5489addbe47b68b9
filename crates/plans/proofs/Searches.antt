-- What looking for the first, some or all of the numbers below a bound tells.
use Rattle.std.proofs.Common.{◌≡◌, ℕ, zero, suc, ◌+◌, ◌*◌, ◌/◌, ◌%◌, ◌<◌, ◌≤◌, Bool, true, false, cond, ◌⊎◌, Some, None, Option, refl, ap, inl, inr, le_refl, suc-mul, arith}
use Rattle.std.specs.Option.{option_map}
use Rattle.std.proofs.lemmas.Nat.{mul-le, div-mul-add, mod-mul-add, div-add-mod'}
use Rattle.std.proofs.lemmas.Bool.{cases_eq}
use Rattle.std.proofs.lemmas.Bool.Decides.{nat_tests}
use Rattle.plans.proofs.TableLists.{row_below, column_below, place_below}
use Rattle.plans.specs.First.{IsFirst, IsFirstPair, RowBefore}
use Rattle.plans.specs.Search.{first_from, first_below, first_pair, some_below, count_below}

-- some below, with what it tells
abbrev pub SomeTells : ℕ → (ℕ → Bool) → Type 0
SomeTells n p =
    ((some_below n p ≡ true) × ((k : ℕ) × (k < n) × (p k ≡ true)))
    ⊎ ((some_below n p ≡ false) × ((k : ℕ) → k < n → p k ≡ false))

some_more : (n : ℕ) (p : ℕ → Bool) (b : Bool) → p n ≡ b → SomeTells n p → SomeTells (suc n) p
some_more n p true e r = inl (rw e refl, (n, omega arith, e))
some_more n p false e (inl r) = inl (rw e r.0, (r.1.0, omega (arith, r.1.1), r.1.2))
some_more n p false e (inr r) =
    inr (
      rw e r.0,
      λ k h. elim (cases_eq k n) [ inl same ↦ rw same e | inr other ↦ r.1 k (omega (arith, other)) ],
    )

pub some_tells : (n : ℕ) (p : ℕ → Bool) → SomeTells n p
some_tells zero p = inr (refl, λ k h. absurd (omega arith))
some_tells (suc n) p = some_more n p (p n) refl (some_tells n p)

pub some_from : (n : ℕ) (p : ℕ → Bool) (k : ℕ) → k < n → p k ≡ true → some_below n p ≡ true
some_from n p k h e = let t = some_tells n p in grind arith

pub none_from : (n : ℕ) (p : ℕ → Bool) → ((k : ℕ) → k < n → p k ≡ false) → some_below n p ≡ false
none_from n p h = elim (some_tells n p) [ inl r ↦ let e = h r.1.0 r.1.1 in cc | inr r ↦ r.0 ]

-- the first from a on
abbrev FirstFrom : (ℕ → Bool) → ℕ → ℕ → Option ℕ → Type 0
FirstFrom p a n (Some k) = (a ≤ k) × (k < a + n) × (p k ≡ true) × ((l : ℕ) → a ≤ l → l < k → p l ≡ false)
FirstFrom p a n None = (l : ℕ) → a ≤ l → l < a + n → p l ≡ false

later_first :
    (p : ℕ → Bool) (a n : ℕ) (r : Option ℕ) → p a ≡ false → FirstFrom p (a + 1) n r → FirstFrom p a (suc n) r
later_first p a n (Some k) e f = (
  omega (arith, f.0),
  omega (arith, f.1),
  f.2,
  λ l h k. elim (cases_eq l a) [ inl same ↦ rw same e | inr other ↦ f.3 l (omega (arith, other)) k ],
)
later_first p a n None e f =
    λ l h k. elim (cases_eq l a) [ inl same ↦ rw same e | inr other ↦ f l (omega (arith, other)) (omega arith) ]

first_more :
    (p : ℕ → Bool) (a n : ℕ) (b : Bool) → p a ≡ b → FirstFrom p (a + 1) n (first_from (a + 1) n p)
    → FirstFrom p a (suc n) (cond b (Some a) (first_from (a + 1) n p))
first_more p a n true e f = (omega arith, omega arith, e, λ l h k. absurd (omega arith))
first_more p a n false e f = later_first p a n (first_from (a + 1) n p) e f

first_from_lem : (p : ℕ → Bool) (a n : ℕ) → FirstFrom p a n (first_from a n p)
first_from_lem p a zero = λ l h k. absurd (omega arith)
first_from_lem p a (suc n) = first_more p a n (p a) refl (first_from_lem p (a + 1) n)

is_first : (p : ℕ → Bool) (n : ℕ) (r : Option ℕ) → FirstFrom p 0 n r → IsFirst p n r
is_first p n (Some k) f = (omega (arith, f.1), f.2, λ l h. f.3 l (omega arith) h)
is_first p n None f = λ l h. f l (omega arith) (omega arith)

-- the first below n is first
pub first_tells : (p : ℕ → Bool) (n : ℕ) → IsFirst p n (first_below n p)
first_tells p n = is_first p n (first_below n p) (first_from_lem p 0 n)

-- and nothing else is
pub first_only : (p : ℕ → Bool) (n : ℕ) (r s : Option ℕ) → IsFirst p n r → IsFirst p n s → r ≡ s
first_only p n (Some k) (Some l) f g =
    let a = f.2 l in
    let b = g.2 k in
    let same : k ≡ l = grind arith in
    ap (λ x. Some x) same
first_only p n (Some k) None f g = let e = g k f.0 in absurd (grind arith)
first_only p n None (Some l) f g = let e = f l g.0 in absurd (grind arith)
first_only p n None None f g = refl

pub first_is : (p : ℕ → Bool) (n : ℕ) (r : Option ℕ) → IsFirst p n r → first_below n p ≡ r
first_is p n r f = first_only p n (first_below n p) r (first_tells p n) f

-- how often below n passes: more the more pass, and at most n
pub count_le : (n : ℕ) (p : ℕ → Bool) → count_below n p ≤ n
count_le zero p = omega arith
count_le (suc n) p = let ih = count_le n p in grind (arith, nat_tests)

pub count_more : (n : ℕ) (p q : ℕ → Bool) → ((k : ℕ) → k < n → p k ≡ true → q k ≡ true) → count_below n p ≤ count_below n q
count_more zero p q h = omega arith
count_more (suc n) p q h =
    let ih = count_more n p q (λ k l e. h k (omega arith) e) in
    let e = h n (omega arith) in
    grind (arith, nat_tests)

pub count_same : (n : ℕ) (p q : ℕ → Bool) → ((k : ℕ) → k < n → p k ≡ q k) → count_below n p ≡ count_below n q
count_same zero p q h = refl
count_same (suc n) p q h =
    let ih = count_same n p q (λ k l. h k (omega arith)) in
    let e = h n (omega arith) in
    cc

-- strictly more where one more passes
pub count_less :
    (n : ℕ) (p q : ℕ → Bool) (x : ℕ) → x < n → p x ≡ false → q x ≡ true
    → ((k : ℕ) → k < n → p k ≡ true → q k ≡ true) → count_below n p < count_below n q
count_less zero p q x l e f h = absurd (omega arith)
count_less (suc n) p q x l e f h =
    elim (cases_eq x n) [
      | inl same ↦
          let a : p n ≡ false = rw same at e in
          let b : q n ≡ true = rw same at f in
          let ih = count_more n p q (λ k l e. h k (omega arith) e) in
          grind (arith, nat_tests)
      | inr other ↦
          let ih = count_less n p q x (omega (arith, other)) e f (λ k l e. h k (omega arith) e) in
          let g = h n (omega arith) in
          grind (arith, nat_tests)
    ]

pub count_none : (n : ℕ) (p : ℕ → Bool) → ((k : ℕ) → k < n → p k ≡ false) → count_below n p ≡ 0
count_none zero p h = refl
count_none (suc n) p h =
    let ih = count_none n p (λ k l. h k (omega arith)) in
    let e = h n (omega arith) in
    grind (arith, nat_tests)

-- a pair that stands before another in row order has the lower place
row_place : (m k l i j : ℕ) → l < m → RowBefore k l i j → k * m + l < i * m + j
row_place m k l i j h (inl less) =
    let e = mul-le (suc k) m i m less (le_refl m) in
    let f = suc-mul k m in
    omega (arith, e, f)
row_place m k l i j h (inr same) = rw same.0 (omega (arith, same.1))

first_pair_lem :
    (m : ℕ) (p : ℕ → ℕ → Bool) (r : Option ℕ) → IsFirst (λ k. p (k / m) (k % m)) (m * m) r
    → IsFirstPair p m (option_map (λ k. (k / m, k % m)) r)
first_pair_lem m p (Some n) f = (
  row_below m n f.0,
  column_below m n f.0,
  f.1,
  λ k l h g b.
      let e : k * m + l < n = omega (arith, row_place m k l (n / m) (n % m) g b, div-add-mod' n m) in
      rw (div-mul-add k m l g, mod-mul-add k m l g) at (f.2 (k * m + l) e),
)
first_pair_lem m p None f =
    λ k l h g. rw (div-mul-add k m l g, mod-mul-add k m l g) at (f (k * m + l) (place_below m k l h g))

-- the first pair is first
pub first_pair_tells : (m : ℕ) (p : ℕ → ℕ → Bool) → IsFirstPair p m (first_pair m p)
first_pair_tells m p =
    first_pair_lem m p (first_below (m * m) (λ k. p (k / m) (k % m))) (first_tells (λ k. p (k / m) (k % m)) (m * m))
