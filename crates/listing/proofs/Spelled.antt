-- Digits as the library writes them, at the end of a room of blanks, are a number in columns.
use Rattle.std.proofs.Common.{◌≡◌, ℕ, suc, ◌-◌, ◌^◌, ◌+◌, ◌<◌, ◌≤◌, List, ◌++◌, length, take, drop, min, decimal, sym, refl, ◌∙◌, append-nil, arith, rules}
use Rattle.listing.specs.Decimal.{last_digits, in_decimal}
use Rattle.listing.specs.Padded.{blanks, padded}
use Rattle.std.proofs.lemmas.List.{drop-append-le, drop-replicate, length-replicate, take-append-drop, take-replicate}
use Rattle.std.proofs.lemmas.Fmt.{AppendsLastDigit, decimal_from_appends, length-decimal-le_succ}

spells : AppendsLastDigit last_digits
unfolding last_digits
spells = search rules

pub decimal_is : (n : ℕ) → n < 2 ^ 64 → decimal n ≡ in_decimal n
unfolding in_decimal
decimal_is n h =
    let short : length (decimal n) ≤ suc n = omega (arith, length-decimal-le_succ n h) in
    sym (decimal_from_appends last_digits spells (suc n) n h short)

-- Digits that end a room of blanks, from the columns' first on or, where they are more, from their own first: k.
pub padded_is :
    (room digits : List ℕ) (start k w n : ℕ) → digits ≡ in_decimal n → w ≤ 20
    → start + length digits ≡ 20
    → take start room ≡ take start (blanks 20)
    → drop start room ≡ digits ++ drop 20 (blanks 20)
    → k ≡ min start (20 - w)
    → drop k room ≡ padded w n
padded_is room digits start k w n is narrow ends before written from =
    let front : take start room ≡ blanks start = before ∙ take-replicate start 20 32 (omega arith) in
    let back : drop start room ≡ digits = written ∙ append-nil digits in
    let inside : k ≤ length (blanks start) = omega (arith, length-replicate {A = ℕ} start 32) in
    let left : start - k ≡ w - length digits = omega arith in
    rw (← take-append-drop start room, front, back, drop-append-le k (blanks start) digits inside, drop-replicate {X = ℕ} k start 32, left, is) refl
