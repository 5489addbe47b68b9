-- The bits of sums, powers and counts of a number, one by one.
use Rattle.std.proofs.Common.{◌≡◌, ℕ, zero, suc, ◌+◌, ◌/◌, ◌%◌, ◌^◌, ◌<◌, Bool, true, false, cond, not, ◌&&◌, ◌||◌, eqb, ◌⊎◌, sym, refl, ap, ◌∙◌, inl, inr, one-mul, div-one, add-one, one-add, arith}
use native.Mathlib.Nat.{zero-div}
use lib.Bits.{bit_and, bit_or, bit_xor, shifted_half, shifted_even}
use lib.Count.{ones, count_trailing_zeros, ones_step, ones-le}
use Rattle.std.proofs.lemmas.Nat.{shr-shr, or_shr, and_shr, xor_shr, or_mod, and_mod, xor_mod, mod_below, shr_below}
use Rattle.std.proofs.lemmas.Bool.{cases_eq, ne_eqb}
use Rattle.std.proofs.lemmas.Bool.Decides.{nat_tests}
use Rattle.plans.proofs.Searches.{count_same}
use Rattle.plans.specs.Search.{count_below}
use Rattle.module_set.specs.Members.{bit_set}

-- a number modulo 2 is 0 or 1
two_ways : (x : ℕ) → (x % 2 ≡ 0) ⊎ (x % 2 ≡ 1)
two_ways x =
    let h = mod_below x 2 (omega arith) in
    elim (cases_eq (x % 2) 0) [ inl e ↦ inl e | inr e ↦ inr (omega (arith, e)) ]

-- a law of the lowest bits of two numbers, by trying the four ways
by_low :
    (op : ℕ → ℕ → ℕ) (law : Bool → Bool → Bool)
    → ((a b : ℕ) → op a b % 2 ^ 1 ≡ op (a % 2 ^ 1) (b % 2 ^ 1))
    → eqb (op 0 0) 1 ≡ law false false → eqb (op 0 1) 1 ≡ law false true
    → eqb (op 1 0) 1 ≡ law true false → eqb (op 1 1) 1 ≡ law true true
    → (a b : ℕ) → eqb (op a b % 2) 1 ≡ law (eqb (a % 2) 1) (eqb (b % 2) 1)
by_low op law low p q r s a b =
    elim (two_ways a) [
      | inl x ↦ elim (two_ways b) [ inl y ↦ rw (low a b, x, y) p | inr y ↦ rw (low a b, x, y) q ]
      | inr x ↦ elim (two_ways b) [ inl y ↦ rw (low a b, x, y) r | inr y ↦ rw (low a b, x, y) s ]
    ]

pub or_bit : (x y k : ℕ) → bit_set (bit_or x y) k ≡ (bit_set x k || bit_set y k)
or_bit x y k =
    rw (or_shr x y k) (by_low bit_or (λ p q. p || q) (λ a b. or_mod a b 1) refl refl refl refl (x / 2 ^ k) (y / 2 ^ k))

pub and_bit : (x y k : ℕ) → bit_set (bit_and x y) k ≡ (bit_set x k && bit_set y k)
and_bit x y k =
    rw (and_shr x y k) (by_low bit_and (λ p q. p && q) (λ a b. and_mod a b 1) refl refl refl refl (x / 2 ^ k) (y / 2 ^ k))

abbrev differs : Bool → Bool → Bool
differs p q = cond p (not q) q

pub xor_bit : (x y k : ℕ) → bit_set (bit_xor x y) k ≡ cond (bit_set x k) (not (bit_set y k)) (bit_set y k)
xor_bit x y k =
    rw (xor_shr x y k) (by_low bit_xor differs (λ a b. xor_mod a b 1) refl refl refl refl (x / 2 ^ k) (y / 2 ^ k))

-- the bits of the word that takes the members of another out
pub minus_bit : (x y k : ℕ) → bit_set (bit_xor x (bit_and x y)) k ≡ (bit_set x k && not (bit_set y k))
minus_bit x y k = rw (xor_bit x (bit_and x y) k, and_bit x y k) (by_cases (bit_set x k) (bit_set y k))
  where
    by_cases : (p q : Bool) → cond p (not (p && q)) (p && q) ≡ (p && not q)
    by_cases true q = refl
    by_cases false q = refl

-- the lowest bit
low_bit : (x : ℕ) → bit_set x 0 ≡ eqb (x % 2) 1
low_bit x = ap (λ y. eqb (y % 2) 1) (div-one x)

-- the bits of half a number are those of the number, one place on
half_bit : (x k : ℕ) → bit_set (x / 2) k ≡ bit_set x (suc k)
half_bit x k = ap (λ y. eqb (y % 2) 1) (shr-shr x 1 k ∙ ap (λ e. x / 2 ^ e) (one-add k))

pub zero_bit : (k : ℕ) → bit_set 0 k ≡ false
zero_bit k = ap (λ y. eqb (y % 2) 1) (zero-div (2 ^ k))

eqb_suc : (k i : ℕ) → eqb k i ≡ eqb (suc k) (suc i)
eqb_suc k i = grind (arith, nat_tests)

-- the bits of a power of two
pub power_bit : (i k : ℕ) → bit_set (2 ^ i) k ≡ eqb k i
power_bit zero zero = refl
power_bit zero (suc k) = sym (half_bit 1 k) ∙ zero_bit k ∙ sym (ne_eqb (suc k) 0 (λ e. omega arith))
power_bit (suc i) zero =
    let even : 2 ^ suc i % 2 ≡ 0 = rw one-mul at (shifted_even 1 i) in
    low_bit (2 ^ suc i) ∙ ap (λ y. eqb y 1) even ∙ sym (ne_eqb 0 (suc i) (λ e. omega arith))
power_bit (suc i) (suc k) =
    let half : 2 ^ suc i / 2 ≡ 2 ^ i = simp one-mul at (shifted_half 1 i) in
    sym (half_bit (2 ^ suc i) k) ∙ ap (λ y. bit_set y k) half ∙ power_bit i k ∙ eqb_suc k i

-- counting from the lowest up
count_low : (n : ℕ) (p : ℕ → Bool) → count_below (suc n) p ≡ cond (p 0) 1 0 + count_below n (λ k. p (suc k))
count_low zero p = omega arith
count_low (suc n) p = let ih = count_low n p in omega arith

low_count : (x : ℕ) → x % 2 ≡ cond (bit_set x 0) 1 0
low_count x = rw (low_bit x) (elim (two_ways x) [ inl e ↦ rw e refl | inr e ↦ rw e refl ])

-- the number of bits that are set
pub ones_count : (n x : ℕ) → x < 2 ^ n → ones x ≡ count_below n (bit_set x)
ones_count zero x h = omega (arith, ones-le 0 x h)
ones_count (suc n) x h =
    let ih = ones_count n (x / 2) (shr_below x n 1 (rw (add-one n) h)) in
    let same = count_same n (bit_set (x / 2)) (λ k. bit_set x (suc k)) (λ k l. half_bit x k) in
    let low = count_low n (bit_set x) in
    let step = ones_step x in
    let bit = low_count x in
    cc

-- the bits below the trailing zeros of n bits are clear, and the one above them is set, or there is none
abbrev pub Trailing : ℕ → ℕ → ℕ → Type 0
Trailing n x t =
    ((t < n) × (bit_set x t ≡ true) × ((k : ℕ) → k < t → bit_set x k ≡ false))
    ⊎ ((t ≡ n) × ((k : ℕ) → k < n → bit_set x k ≡ false))

-- what is clear in half the number and at the lowest bit is clear
clear_more :
    (x t : ℕ) → bit_set x 0 ≡ false → ((k : ℕ) → k < t → bit_set (x / 2) k ≡ false)
    → (k : ℕ) → k < suc t → bit_set x k ≡ false
clear_more x t e f zero h = e
clear_more x t e f (suc k) h = sym (half_bit x k) ∙ f k (omega arith)

trailing_more : (n x t : ℕ) → bit_set x 0 ≡ false → Trailing n (x / 2) t → Trailing (suc n) x (suc t)
trailing_more n x t e (inl r) =
    inl (omega (arith, r.0), sym (half_bit x t) ∙ r.1, clear_more x t e r.2)
trailing_more n x t e (inr r) = inr (omega (arith, r.0), clear_more x n e r.1)

pub trailing_tells : (n x : ℕ) → Trailing n x (count_trailing_zeros n x)
unfolding count_trailing_zeros
trailing_tells zero x = inr (refl, λ k h. absurd (omega arith))
trailing_tells (suc n) x =
    elim (two_ways x) [
      | inl e ↦ rw e (trailing_more n x (count_trailing_zeros n (x / 2)) (low_bit x ∙ rw e refl) (trailing_tells n (x / 2)))
      | inr e ↦ rw e (inl (omega arith, low_bit x ∙ rw e refl, λ k h. absurd (omega arith)))
    ]
