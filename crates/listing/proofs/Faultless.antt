-- What sheets without a fault say: few modules, each of possible sides.
use Rattle.std.proofs.Common.{◌≡◌, ℕ, All, zero, suc, ◌+◌, ◌<◌, ◌≤◌, false, not, ltb, List, [], ◌∷◌, ◌++◌, map, length, get_or, take, is_some, Some, None, sym, refl, ap, ◌∙◌, subst, ⊎_elim, arith, lt-ltb}
use Rattle.listing.specs.Bordered.{PossibleSides, bordered_sides}
use Rattle.listing.specs.Whole.{sides_on}
use Rattle.lengths.specs.declared.plain.Plain.{Plain}
use Rattle.plans.specs.declared.measures.Sides.{Sides}
use Rattle.sheets.specs.Checks.{Check, each, field_finding, first, line_finding, tell_if}
use Rattle.sheets.specs.Lines.{goes_on, has_width, line_start, part}
use Rattle.sheets.specs.Lists.{Filled, side_at, sides_of, sides_read}
use Rattle.sheets.specs.Reading.{all_checks, bad_at, head_checks, is_side, last_checks, length_checks, list_checks, modules_of, number_at, rows_checks, sheet_checks, side_checks, size_checks, sizes_checks}
use Rattle.sheets.specs.Words.{head_word}
use Rattle.sheets.specs.declared.fault.Sheet.TheVariants.{Plan, Sizes}
use Rattle.sheets.specs.declared.fault.Wrong.TheVariants.{BadField, OutOfRange, UnknownWord}
use Rattle.std.proofs.lemmas.List.FromFn.{fill_by_all}
use Rattle.std.proofs.lemmas.List.{get_or-take, get_or_default, length-take-le}
use Rattle.std.proofs.lemmas.Bool.{cond-true, cond-false, cases_Bool}
use Rattle.std.proofs.lemmas.Bool.Decides.{nat_tests}
use Rattle.std.specs.List.{range_with_len, flat_map}
use mathlib.Core.List.{map-map}

-- where no check applies, the first does not, nor any other
first_passed : (c : Check) (cs : List Check) → first (c ∷ cs) ≡ None → (c.applies ≡ false) × (first cs ≡ None)
first_passed c cs e =
    ⊎_elim
    (λ t. let h : Some c.tells ≡ None = sym (cond-true c.applies (Some c.tells) (first cs) t) ∙ e in let z : ◌≡◌ {A = ℕ} 0 1 = cc in absurd (omega arith))
    (λ n. (n, sym (cond-false c.applies (Some c.tells) (first cs) n) ∙ e))
    (cases_Bool c.applies)

both_passed : (xs ys : List Check) → first (xs ++ ys) ≡ None → (first xs ≡ None) × (first ys ≡ None)
both_passed [] ys e = (refl, e)
both_passed (x ∷ xs) ys e =
    let here = first_passed x (xs ++ ys) e in
    let there = both_passed xs ys here.1 in
    (cond-false x.applies (Some x.tells) (first xs) here.0 ∙ there.0, there.1)

each_from : (f : ℕ → List Check) (a n k : ℕ) → first (flat_map f (range_with_len a n)) ≡ None → k < n → first (f (a + k)) ≡ None
each_from f a zero k e h = absurd (omega arith)
each_from f a (suc n) zero e h =
    let here : a ≡ a + 0 = omega arith in
    subst (λ j. first (f j) ≡ None) here (both_passed (f a) (flat_map f (range_with_len (a + 1) n)) e).0
each_from f a (suc n) (suc k) e h =
    let more : a + 1 + k ≡ a + suc k = omega arith in
    subst (λ j. first (f j) ≡ None) more (each_from f (a + 1) n k (both_passed (f a) (flat_map f (range_with_len (a + 1) n)) e).1 (omega arith))

each_passed : (f : ℕ → List Check) (n k : ℕ) → first (each n f) ≡ None → k < n → first (f k) ≡ None
each_passed f n k e h = let here : 0 + k ≡ k = omega arith in subst (λ j. first (f j) ≡ None) here (each_from f 0 n k e h)

side_passed : (n : ℕ) → not (is_side n) ≡ false → (1 ≤ n) × (n ≤ 100000)
side_passed n e = (grind (arith, nat_tests), grind (arith, nat_tests))

-- the number in the field of a side whose checks are passed
field_passed : (sizes : List ℕ) (n s o : ℕ) → first (side_checks sizes n s o) ≡ None → (1 ≤ number_at sizes (s + o) 8) × (number_at sizes (s + o) 8 ≤ 100000)
field_passed sizes n s o e =
    let range = tell_if (not (is_side (number_at sizes (s + o) 8))) (field_finding OutOfRange Sizes n s o 8) in
    let written = tell_if (bad_at sizes (s + o) 8) (field_finding BadField Sizes n s o 8) in
    side_passed (number_at sizes (s + o) 8) (first_passed range [] (first_passed written (range ∷ []) e).1).0

-- the numbers on the line of a module whose checks are passed
line_passed :
    (sizes : List ℕ) (k : ℕ) → first (size_checks sizes k) ≡ None
    → ((1 ≤ side_at sizes k 0) × (side_at sizes k 0 ≤ 100000)) × ((1 ≤ side_at sizes k 8) × (side_at sizes k 8 ≤ 100000))
line_passed sizes k e =
    let width = side_checks sizes (k + 1) (line_start sizes k) 0 in
    let height = side_checks sizes (k + 1) (line_start sizes k) 8 in
    let both = both_passed width height (first_passed (tell_if (not (has_width sizes (line_start sizes k) 16)) (line_finding Sizes (k + 1))) (width ++ height) e).1 in
    (field_passed sizes (k + 1) (line_start sizes k) 0 both.0, field_passed sizes (k + 1) (line_start sizes k) 8 both.1)

-- the checks of the head and of the sizes are passed
parts_passed :
    (sizes plan : List ℕ) → first (all_checks sizes plan 64 4096 64) ≡ None
    → (first (head_checks plan) ≡ None) × (first (each (modules_of plan) (size_checks sizes)) ≡ None)
parts_passed sizes plan e =
    let m = modules_of plan in
    let rows = rows_checks plan m ++ last_checks plan m in
    let lines = sizes_checks sizes m ++ rows in
    let sheets = (both_passed (list_checks 64 4096 64) (sheet_checks sizes plan) e).1 in
    let head = both_passed (head_checks plan) lines (both_passed (length_checks sizes plan) (head_checks plan ++ lines) sheets).1 in
    let all = (both_passed (sizes_checks sizes m) rows head.1).0 in
    (head.0, (both_passed (each m (size_checks sizes)) (tell_if (goes_on sizes (line_start sizes m)) (line_finding Sizes (m + 1)) ∷ []) all).0)

-- at most 64 modules
pub few_modules : (sizes plan : List ℕ) → first (all_checks sizes plan 64 4096 64) ≡ None → modules_of plan ≤ 64
few_modules sizes plan e =
    let range = tell_if (ltb 64 (modules_of plan)) (field_finding OutOfRange Plan 1 0 4 4) in
    let written = tell_if (bad_at plan 4 4) (field_finding BadField Plan 1 0 4 4) in
    let word = tell_if (not (is_some (head_word (part plan 0 4)))) (field_finding UnknownWord Plan 1 0 0 4) in
    let line = tell_if (not (has_width plan 0 8)) (line_finding Plan 1) in
    let behind-line = (first_passed line (word ∷ written ∷ range ∷ []) (parts_passed sizes plan e).0).1 in
    let behind-written = (first_passed written (range ∷ []) (first_passed word (written ∷ range ∷ []) behind-line).1).1 in
    few (modules_of plan) (first_passed range [] behind-written).0
  where
    few : (m : ℕ) → ltb 64 m ≡ false → m ≤ 64
    few m e = grind (arith, nat_tests)

-- what a list filled with f holds below n
below_filled : (f : ℕ → Sides Plain) (n k : ℕ) (xs : List (Sides Plain)) → Filled (sides_of 0 0) f n xs → k < n → get_or xs k (sides_of 0 0) ≡ f k
below_filled f n k xs filled h = filled k ∙ cond-true (ltb k n) (f k) (sides_of 0 0) (lt-ltb k n h)

-- each module has possible sides
pub sides_possible :
    (sizes plan : List ℕ) (xs : List (Sides Plain)) → first (all_checks sizes plan 64 4096 64) ≡ None
    → Filled (sides_of 0 0) (sides_read sizes) (modules_of plan) xs → modules_of plan ≤ length xs
    → All PossibleSides (take (modules_of plan) xs)
sides_possible sizes plan xs e filled room k d h =
    let m = modules_of plan in
    let l : k < m = omega (arith, length-take-le m xs room) in
    let both = line_passed sizes k (each_passed (size_checks sizes) m k (parts_passed sizes plan e).1 l) in
    subst PossibleSides
    (sym (get_or-take m xs k d l ∙ get_or_default xs k d (sides_of 0 0) (omega arith) ∙ below_filled (sides_read sizes) m k xs filled l))
    (record { width = record { some = both.0.0; small = both.0.1 }; height = record { some = both.1.0; small = both.1.1 } })

-- the sides that were read, with their borders, are those of the definition
pub sides_listed :
    (sizes : List ℕ) (m : ℕ) (xs : List (Sides Plain)) → Filled (sides_of 0 0) (sides_read sizes) m xs → m ≤ length xs
    → map bordered_sides (take m xs) ≡ sides_on sizes m
sides_listed sizes m xs filled h =
    let read : take m xs ≡ map (sides_read sizes) (range_with_len 0 m) =
    fill_by_all (sides_read sizes) (take m xs) m (sides_of 0 0) (length-take-le m xs h)
    (λ k l. get_or-take m xs k (sides_of 0 0) l ∙ below_filled (sides_read sizes) m k xs filled l) in
    ap (map bordered_sides) read ∙ map-map bordered_sides (sides_read sizes) (range_with_len 0 m)
