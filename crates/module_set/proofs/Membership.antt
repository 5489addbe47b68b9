-- The members of the sets that single words, unions, differences and counts make.
use Rattle.std.proofs.Common.{◌≡◌, ℕ, ◌/◌, ◌^◌, ◌<◌, ◌≤◌, Bool, true, false, not, ◌&&◌, ◌||◌, eqb, ltb, is_some, Some, None, Option, sym, refl, ap, ◌∙◌, inl, inr, arith}
use lib.Bits.{bit_and, bit_or, bit_xor, and_mask}
use lib.Count.{ones, count_trailing_zeros}
use Rattle.std.proofs.lemmas.Bool.{cases_lt, lt-ltb, le-ltb, true≢false}
use Rattle.std.proofs.lemmas.Bool.Decides.{nat_tests}
use Rattle.plans.proofs.Searches.{count_same, first_is, first_tells, some_tells, some_from, none_from}
use Rattle.plans.specs.First.{IsFirst}
use Rattle.plans.specs.Search.{first_below, some_below}
use Rattle.module_set.proofs.Bits.{or_bit, and_bit, minus_bit, power_bit, zero_bit, ones_count, trailing_tells}
use Rattle.module_set.specs.Members.{bit_set, member, no_module, no_member, in_set, least_member, member_count}
use Rattle.module_set.specs.declared.set.ModuleSet.{ModuleSet}

-- below 64 a member is a bit that is set
pub member_inside : (s : ModuleSet) (k : ℕ) → k < 64 → member s k ≡ bit_set s.bits k
unfolding member
member_inside s k h = rw (lt-ltb k 64 h) refl

-- and over 63 there is none
pub member_outside : (s : ModuleSet) (k : ℕ) → 64 ≤ k → member s k ≡ false
unfolding member
member_outside s k h = rw (le-ltb k 64 h) refl

pub member_below : (s : ModuleSet) (k : ℕ) → member s k ≡ true → k < 64
member_below s k e = elim (cases_lt k 64) [ inl h ↦ h | inr h ↦ let o = member_outside s k h in absurd (grind arith) ]

pub low_member : (s : ModuleSet) (i : ℕ) → i < 64 → eqb (bit_and (s.bits / 2 ^ i) 1) 1 ≡ member s i
low_member s i h = ap (λ y. eqb y 1) (and_mask (s.bits / 2 ^ i) 1) ∙ sym (member_inside s i h)

pub none_member : (k : ℕ) → member no_module k ≡ false
unfolding member
none_member k = rw (zero_bit k) (grind (arith, nat_tests))

pub single_member : (i k : ℕ) → member (record { bits = 2 ^ i }) k ≡ (ltb k 64 && eqb k i)
unfolding member
single_member i k = rw (power_bit i k) refl

pub union_member :
    (s t : ModuleSet) (k : ℕ) → member (record { bits = bit_or s.bits t.bits }) k ≡ (member s k || member t k)
unfolding member
union_member s t k = rw (or_bit s.bits t.bits k) (grind (arith, nat_tests))

pub both_member :
    (s t : ModuleSet) (k : ℕ) → member (record { bits = bit_and s.bits t.bits }) k ≡ (member s k && member t k)
unfolding member
both_member s t k = rw (and_bit s.bits t.bits k) (by_cases (ltb k 64) (bit_set s.bits k) (bit_set t.bits k))
  where
    by_cases : (x p q : Bool) → (x && (p && q)) ≡ ((x && p) && (x && q))
    by_cases true p q = refl
    by_cases false p q = refl

pub minus_member :
    (s t : ModuleSet) (k : ℕ)
    → member (record { bits = bit_xor s.bits (bit_and s.bits t.bits) }) k ≡ (member s k && not (member t k))
unfolding member
minus_member s t k = rw (minus_bit s.bits t.bits k) (by_cases (ltb k 64) (bit_set s.bits k) (bit_set t.bits k))
  where
    by_cases : (x p q : Bool) → (x && (p && not q)) ≡ ((x && p) && not (x && q))
    by_cases true p q = refl
    by_cases false p q = refl

pub count_members : (s : ModuleSet) → s.bits < 2 ^ 64 → ones s.bits ≡ member_count s
unfolding member_count
count_members s h =
    ones_count 64 s.bits h ∙ count_same 64 (bit_set s.bits) (member s) (λ k l. sym (member_inside s k l))

-- the least member stands at the trailing zeros
pub first_member : (s : ModuleSet) → count_trailing_zeros 64 s.bits < 64 → Some (count_trailing_zeros 64 s.bits) ≡ least_member s
unfolding least_member
first_member s h =
    elim (trailing_tells 64 s.bits) [
      | inl r ↦
          sym (first_is (member s) 64 (Some (count_trailing_zeros 64 s.bits)) (
            h,
            member_inside s (count_trailing_zeros 64 s.bits) h ∙ r.1,
            λ l g. member_inside s l (omega arith) ∙ r.2 l g,
          ))
      | inr r ↦ absurd (omega (arith, r.0))
    ]

pub no_member_lem : (s : ModuleSet) → 64 ≤ count_trailing_zeros 64 s.bits → None ≡ least_member s
unfolding least_member
no_member_lem s h =
    elim (trailing_tells 64 s.bits) [
      | inl r ↦ absurd (omega (arith, r.0))
      | inr r ↦ sym (first_is (member s) 64 None (λ l g. member_inside s l g ∙ r.1 l g))
    ]

-- there is a least member exactly where there is one
pub least_none : (s : ModuleSet) → not (is_some (least_member s)) ≡ no_member s
unfolding least_member no_member
least_none s = settle (first_below 64 (member s)) (first_tells (member s) 64)
  where
    settle : (r : Option ℕ) → IsFirst (member s) 64 r → not (is_some r) ≡ not (some_below 64 (member s))
    settle (Some k) f = rw (some_from 64 (member s) k f.0 f.1) refl
    settle None f = rw (none_from 64 (member s) f) refl

-- tests with the same answers below a bound find some or none together
pub some_same : (n : ℕ) (p q : ℕ → Bool) → ((k : ℕ) → p k ≡ q k) → some_below n p ≡ some_below n q
some_same n p q same =
    elim (some_tells n p) [
      | inl r ↦ r.0 ∙ sym (some_from n q r.1.0 r.1.1 (sym (same r.1.0) ∙ r.1.2))
      | inr r ↦ r.0 ∙ sym (none_from n q (λ k h. sym (same k) ∙ r.1 k h))
    ]

pub no_difference :
    (s t d : ModuleSet) → ((k : ℕ) → member d k ≡ (member s k && not (member t k))) → no_member d ≡ in_set s t
unfolding no_member in_set
no_difference s t d same = ap not (some_same 64 (member d) (λ k. member s k && not (member t k)) same)

pub none_found :
    (s : ModuleSet) (o : Option ℕ) (r : Bool) → o ≡ least_member s → is_some o ≡ not r → r ≡ no_member s
none_found s o true e f = sym (ap not (sym (ap is_some e) ∙ f)) ∙ least_none s
none_found s o false e f = sym (ap not (sym (ap is_some e) ∙ f)) ∙ least_none s

-- a member is one of 0 to 63, so a set without a number has all its other members
bounded : (l b e : Bool) → ((l && b) && not (l && e)) ≡ ((l && b) && not e)
bounded true b e = refl
bounded false b e = refl

pub without_number : (s : ModuleSet) (k i : ℕ) → (member s k && not (ltb k 64 && eqb k i)) ≡ (member s k && not (eqb k i))
unfolding member
without_number s k i = bounded (ltb k 64) (bit_set s.bits k) (eqb k i)

-- one set is in another exactly where each of its members is one of the other
pub member_in_set : (s t : ModuleSet) (k : ℕ) → in_set s t ≡ true → member s k ≡ true → member t k ≡ true
unfolding in_set
member_in_set s t k within here = settle (member t k) refl
  where
    settle : (b : Bool) → member t k ≡ b → b ≡ true
    settle true e = refl
    settle false e =
        let found = some_from 64 (λ j. member s j && not (member t j)) k (member_below s k here) (rw (here, e) refl) in
        absurd (true≢false (sym within ∙ ap not found))

pub in_set_from : (s t : ModuleSet) → ((k : ℕ) → member s k ≡ true → member t k ≡ true) → in_set s t ≡ true
unfolding in_set
in_set_from s t each =
    ap not (none_from 64 (λ k. member s k && not (member t k)) (λ k h. settle (member s k) (member t k) (each k)))
  where
    settle : (a b : Bool) → (a ≡ true → b ≡ true) → (a && not b) ≡ false
    settle false b e = refl
    settle true b e = rw (e refl) refl
