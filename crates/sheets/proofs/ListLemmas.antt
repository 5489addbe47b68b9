-- Lemmas on the caller's lists: one is filled one place further, and the places of a row of codes.
use Rattle.std.proofs.Common.{take, drop, ◌++◌, ◌-◌, inl, inr, ◌≡◌, ℕ, ◌+◌, ◌*◌, ◌/◌, ◌%◌, ◌<◌, ◌≤◌, Bool, true, false, ltb, List, length, get_or, set, MatchBool, sym, refl, ap, ◌∙◌, subst, ap₂, add-mul, one-mul, arith}
use borrow.Rule.Slice.PartMut.{put_mid}
use borrow.Author.Count.{below_more}
use Rattle.std.proofs.lemmas.Nat.{div-mul-add, mod-mul-add}
use Rattle.sheets.specs.declared.fault.Wrong.{Wrong}
use Rattle.sheets.specs.Faults.{clears}
use Rattle.sheets.specs.Lines.{line_start}
use Rattle.sheets.specs.Parsing.{Left}
use Rattle.sheets.specs.Reading.{code_at, code_read}
use Rattle.std.proofs.lemmas.Slice.{take-put_mid}
use Rattle.std.proofs.lemmas.List.{get_or-drop, get_or-set_same, get_or-set_other, get_or-take, length-take-le, get_or_append_left, get_or-append_right}
use Rattle.std.proofs.lemmas.Bool.{cases_lt, cond-true, cond-false, lt-ltb, le-ltb}
use Rattle.sheets.specs.Lists.{Filled, Cleared, Front}

-- one row more
pub row_more : (i m : ℕ) → (i + 1) * m ≡ i * m + m
row_more i m = add-mul i 1 m ∙ ap (λ (x : ℕ). i * m + x) (one-mul m)

-- the code at letter j of row i, whose line starts at s
pub row_codes : (plan : List ℕ) (m i base s j : ℕ) → base ≡ i * m → s ≡ line_start plan (i + 1) → j < m → code_read plan m (base + j) ≡ code_at plan (s + j)
row_codes plan m i base s j b e h =
    let q : (base + j) / m ≡ i = ap (λ x. (x + j) / m) b ∙ div-mul-add i m j h in
    let r : (base + j) % m ≡ j = ap (λ x. (x + j) % m) b ∙ mod-mul-add i m j h in
    ap₂ (λ a b. code_at plan (line_start plan (a + 1) + b)) q r ∙ ap (λ x. code_at plan (x + j)) (sym e)

-- what a fault leaves
pub left_kept : {X : Type 0} (nought : X) (w : Wrong) (xs : List X) → clears w ≡ false → Left nought w xs xs
left_kept nought w xs e = subst (λ (b : Bool). MatchBool b (Cleared nought xs) (xs ≡ xs)) (sym e) refl

pub left_cleared : {X : Type 0} (nought : X) (w : Wrong) (before after : List X) → clears w ≡ true → Cleared nought after → Left nought w before after
left_cleared nought w before after e h = subst (λ (b : Bool). MatchBool b (Cleared nought after) (after ≡ before)) (sym e) h

-- one more place of the front is read
pub front_more : {X : Type 0} (nought : X) (f : ℕ → X) (n : ℕ) (xs : List X) (x : X) → n < length xs → x ≡ f n → Front nought f n xs → Front nought f (n + 1) (set xs n x)
front_more nought f n xs x h e all =
    below_more (λ k. get_or (set xs n x) k nought ≡ f k) n
    (λ k l. get_or-set_other xs n k x nought (λ same. omega arith) ∙ all k l)
    (get_or-set_same xs n x nought h ∙ e)

-- a part behind the front is read
pub front_part : {X : Type 0} (nought : X) (f : ℕ → X) (a k n : ℕ) (xs ys : List X) → n ≡ a + length ys → n ≤ length xs → Front nought f a xs → Front nought (λ j. f (a + j)) (length ys) ys → Front nought f n (put_mid a k xs ys)
front_part nought f a k n xs ys e room front part i h =
    let whole : take n (put_mid a k xs ys) ≡ take a xs ++ ys = take-put_mid a k xs ys n e (omega arith) in
    let long : length (take a xs) ≡ a = length-take-le a xs (omega arith) in
    sym (get_or-take n (put_mid a k xs ys) i nought h)
    ∙ ap (λ l. get_or l i nought) whole
    ∙ elim (cases_lt i a) [
      | inl l ↦ get_or_append_left (take a xs) ys nought i (omega arith) ∙ get_or-take a xs i nought l ∙ front i l
      | inr g ↦ get_or-append_right (take a xs) ys a i nought long g ∙ part (i - a) (omega arith) ∙ ap f (omega arith)
    ]

-- a front that is read and zero behind it
pub filled_front : {X : Type 0} (nought : X) (f : ℕ → X) (n : ℕ) (xs ys : List X) → Cleared nought xs → length ys ≡ n → Front nought f n ys → Filled nought f n (ys ++ drop n xs)
filled_front nought f n xs ys clear long front k =
    elim (cases_lt k n) [
      | inl l ↦ get_or_append_left ys (drop n xs) nought k (omega arith) ∙ front k l ∙ sym (cond-true (ltb k n) (f k) nought (lt-ltb k n l))
      | inr g ↦ get_or-append_right ys (drop n xs) n k nought long g ∙ get_or-drop n xs (k - n) nought ∙ clear (n + (k - n)) ∙ sym (cond-false (ltb k n) (f k) nought (le-ltb k n g))
    ]
