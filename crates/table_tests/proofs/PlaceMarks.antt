-- The places of a sequence, by marking the modules that are met.
use Rattle.std.proofs.Common.{◌≡◌, ℕ, ◌+◌, ◌<◌, ◌≤◌, Bool, true, false, ◌&&◌, ◌||◌, eqb, ltb, leb, ◌≢◌, List, length, get_or, set, Some, None, Option, Ok, sym, refl, ap, ◌∙◌, subst, inl, inr, add-one, arith, length-set, get_or-set_other, get_or-set_same}
use Rattle.std.proofs.lemmas.Bool.{cases_eq, cases_order, lt-ltb, le-leb, eq-eqb, true≢false, or_parts, leb-false}
use Rattle.std.proofs.lemmas.Bool.Decides.{nat_tests}
use Rattle.std.specs.Option.{option_map}
use Rattle.std.specs.Prelude.{MatchOption}
use Rattle.std.specs.List.{AllWithin, HoldsAt, zip}
use Rattle.std.proofs.lemmas.Slice.Zip.{get_or-zip, length-zip}
use Rattle.plans.specs.Changes.{unless}
use Rattle.plans.specs.declared.refusals.LoadRefusal.TheVariants.{WrongPlace}
use Rattle.plans.proofs.Pigeonhole.{Different, all_found}
use Rattle.plans.proofs.Places.{place_at}
use Rattle.plans.proofs.Searches.{some_from, first_is, first_tells}
use Rattle.plans.specs.First.{IsFirst}
use Rattle.plans.specs.Search.{some_below, first_below, place_of}
use Rattle.plans.specs.Tables.{Table}
use Rattle.plans.specs.Tests.{place_wrong, backwards}
use Rattle.table_tests.specs.Places.{against}

-- whether a module stands at a place below k
abbrev pub met_below : List ℕ → ℕ → ℕ → Bool
met_below s k x = some_below k (λ l. eqb (get_or s l 0) x)

pub met_none : (s : List ℕ) (x : ℕ) → false ≡ (ltb x 64 && met_below s 0 x)
met_none s x = by_cases (ltb x 64)
  where
    by_cases : (b : Bool) → false ≡ (b && false)
    by_cases true = refl
    by_cases false = refl

pub met_more :
    (s : List ℕ) (k x : ℕ)
    → ((ltb x 64 && met_below s k x) || (ltb x 64 && eqb x (get_or s k 0))) ≡ (ltb x 64 && met_below s (k + 1) x)
met_more s k x =
    let same : eqb x (get_or s k 0) ≡ eqb (get_or s k 0) x = grind (arith, nat_tests) in
    rw (add-one k, same) (by_cases (ltb x 64) (met_below s k x) (eqb (get_or s k 0) x))
  where
    by_cases : (a b d : Bool) → ((a && b) || (a && d)) ≡ (a && (d || b))
    by_cases false b d = refl
    by_cases true true true = refl
    by_cases true true false = refl
    by_cases true false true = refl
    by_cases true false false = refl

-- a place is wrong where its number is no module, or one that was met
pub wrong_beyond : (s : List ℕ) (k : ℕ) → length s ≤ get_or s k 0 → place_wrong s k ≡ true
wrong_beyond s k h = rw (le-leb (length s) (get_or s k 0) h) refl

pub wrong_met :
    (s : List ℕ) (k : ℕ) → get_or s k 0 < length s → length s ≤ 64 → (b : Bool)
    → b ≡ (ltb (get_or s k 0) 64 && met_below s k (get_or s k 0)) → place_wrong s k ≡ b
wrong_met s k h few b e =
    let t : leb (length s) (get_or s k 0) ≡ false = grind (arith, nat_tests) in
    rw t (sym (e ∙ rw (lt-ltb (get_or s k 0) 64 (omega arith)) refl))

-- the refusal that tells the first wrong place
pub told_place :
    (s : List ℕ) (r : Option ℕ) → IsFirst (place_wrong s) (length s) r
    → unless (option_map WrongPlace r) (tt {0}) ≡ unless (option_map WrongPlace (first_below (length s) (place_wrong s))) (tt {0})
told_place s r f = ap (λ o. unless (option_map WrongPlace o) (tt {0})) (sym (first_is (place_wrong s) (length s) r f))

-- and with none, no place is wrong
pub none_wrong :
    (s : List ℕ) → Ok (tt {0}) ≡ unless (option_map WrongPlace (first_below (length s) (place_wrong s))) (tt {0})
    → (k : ℕ) → k < length s → place_wrong s k ≡ false
none_wrong s = settle (first_below (length s) (place_wrong s)) (first_tells (place_wrong s) (length s))
  where
    settle :
        (r : Option ℕ) → IsFirst (place_wrong s) (length s) r → Ok (tt {0}) ≡ unless (option_map WrongPlace r) (tt {0})
        → (k : ℕ) → k < length s → place_wrong s k ≡ false
    settle (Some l) f e = absurd cc
    settle None f e = f

-- a sequence without a wrong place names each module once
pub named_once :
    (s : List ℕ) → ((k : ℕ) → k < length s → place_wrong s k ≡ false) → Different (length s) (λ k. get_or s k 0)
named_once s clean = record { below = below; once = once }
  where
    below : (k : ℕ) → k < length s → get_or s k 0 < length s
    below k h = leb-false (length s) (get_or s k 0) (or_parts (leb (length s) (get_or s k 0)) (met_below s k (get_or s k 0)) (clean k h)).0

    earlier : (k l : ℕ) → l < k → k < length s → get_or s l 0 ≡ get_or s k 0 → ⊥
    earlier k l h g e =
        let met = some_from k (λ l. eqb (get_or s l 0) (get_or s k 0)) l h (eq-eqb (get_or s l 0) (get_or s k 0) e) in
        let none = (or_parts (leb (length s) (get_or s k 0)) (met_below s k (get_or s k 0)) (clean k g)).1 in
        true≢false (sym met ∙ none)

    once : (k l : ℕ) → k < length s → l < length s → get_or s k 0 ≡ get_or s l 0 → k ≡ l
    once k l h g e =
        elim (cases_order k l) [
          | inl same ↦ same
          | inr (inl less) ↦ absurd (earlier l k less g e)
          | inr (inr more) ↦ absurd (earlier k l more h (sym e))
        ]

-- the places of the modules at the first k places are written
abbrev pub Written : List ℕ → ℕ → List ℕ → Type 0
Written s k places = (length places ≡ 64) × ((l : ℕ) → l < k → get_or places (get_or s l 0) 0 ≡ l)

pub written_more :
    (s : List ℕ) (k : ℕ) (places : List ℕ) → length s ≤ 64 → k < length s → Different (length s) (λ k. get_or s k 0)
    → Written s k places → Written s (k + 1) (set places (get_or s k 0) k)
written_more s k places few h different w = (
  length-set places (get_or s k 0) k ∙ w.0,
  λ l g.
      elim (cases_eq l k) [
        | inl same ↦
            let inside : get_or s k 0 < length places = omega (arith, different.below k h, w.0) in
            rw same (rw get_or-set_same)
        | inr other ↦
            let apart : get_or s l 0 ≢ get_or s k 0 = λ e. other (different.once l k (omega arith) h e) in
            rw get_or-set_other (w.1 l (omega (arith, other)))
      ],
)

pub written_all :
    (s : List ℕ) (k : ℕ) (places : List ℕ) → length s ≤ k → Different (length s) (λ k. get_or s k 0) → Written s k places
    → (i : ℕ) → i < length s → get_or places i 0 ≡ place_of s i
written_all s k places all different w i h =
    let (l, g, e) = all_found (length s) (λ k. get_or s k 0) different i h in
    subst (λ x. get_or places x 0 ≡ place_of s x) e
    (w.1 l (omega arith) ∙ sym (place_at (length s) s refl different l g))

-- of a row of codes beside the places, the first code that is not 0 at a place below a module's own
pub beside_first :
    (row places : List ℕ) (own m : ℕ) (r : Option ℕ) → length row ≡ m → m ≤ length places
    → MatchOption r (AllWithin (λ x. (ltb 0 x.0 && ltb x.1 own) ≡ false) (zip row places) 0 (length (zip row places)))
    (λ k. (k < length (zip row places)) × HoldsAt (λ x. (ltb 0 x.0 && ltb x.1 own) ≡ true) (zip row places) k
    × AllWithin (λ x. (ltb 0 x.0 && ltb x.1 own) ≡ false) (zip row places) 0 k)
    → IsFirst (λ j. ltb 0 (get_or row j 0) && ltb (get_or places j 0) own) m r
beside_first row places own m (Some k) long few f =
    let z = length-zip row places in (
      omega (arith, f.0),
      rw (get_or-zip row places k (0, 0) (omega (arith, f.0)) (omega (arith, f.0))) at (f.1 (0, 0)),
      λ l h.
          rw (get_or-zip row places l (0, 0) (omega (arith, f.0)) (omega (arith, f.0))) at (f.2 l (0, 0) (omega arith) h),
    )
beside_first row places own m None long few f =
    λ l h.
    let z = length-zip row places in
    rw (get_or-zip row places l (0, 0) (omega arith) (omega arith)) at (f l (0, 0) (omega arith) (omega arith))

-- the first edge against the places is the first against the sequence
pub against_first :
    (c : Table) (s places : List ℕ) (m i : ℕ) → length s ≡ m → i < m
    → ((x : ℕ) → x < length s → get_or places x 0 ≡ place_of s x)
    → (r : Option ℕ) → r ≡ first_below m (against c places i) → r ≡ first_below m (backwards c s i)
against_first c s places m i long h placed r e =
    sym (first_is (backwards c s i) m r (settle r (subst (IsFirst (against c places i) m) (sym e) (first_tells (against c places i) m))))
  where
    alike : (j : ℕ) → j < m → against c places i j ≡ backwards c s i j
    alike j l = rw (placed i (omega arith), placed j (omega arith)) refl

    settle : (r : Option ℕ) → IsFirst (against c places i) m r → IsFirst (backwards c s i) m r
    settle (Some j) f = (f.0, sym (alike j f.0) ∙ f.1, λ l g. sym (alike l (omega (arith, f.0))) ∙ f.2 l g)
    settle None f = λ l g. sym (alike l g) ∙ f l g
