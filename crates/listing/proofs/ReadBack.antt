-- A number in columns is a well-written field, which holds the number.
use Rattle.std.proofs.Common.{◌≡◌, ℕ, zero, suc, ◌+◌, ◌-◌, ◌^◌, ◌<◌, true, cond, ◌⊎◌, List, [], ◌∷◌, ◌++◌, length, get_or, Some, None, decimal, sym, refl, ap, ◌∙◌, subst, inl, inr, arith, rules}
use Rattle.listing.proofs.Spelled.{decimal_is}
use Rattle.listing.specs.Decimal.{in_decimal}
use Rattle.listing.specs.Padded.{blanks, padded}
use Rattle.sheets.specs.Fields.{after_blanks, all_digits, proper, value_after, field_number}
use Rattle.std.proofs.lemmas.Fmt.{digits_decimal, digits_value-decimal, first_decimal, decimal_nonempty, decimal_digit}
use Rattle.std.proofs.lemmas.Str.Parse.{IsNumeralModel, numerals_by_fold}
use Rattle.std.proofs.lemmas.Bool.Decides.{nat_tests}

own : IsNumeralModel (λ ds. all_digits ds ≡ true) (value_after 0)
own = numerals_by_fold _ (search rules) value_after (search rules)

-- blanks before something that begins with none are all that is dropped
skipped : (k : ℕ) (ds : List ℕ) → (get_or ds 0 0 ≡ 32 → ⊥) → after_blanks (blanks k ++ ds) ≡ ds
skipped zero [] h = refl
skipped zero (d ∷ ds) h = grind (arith, nat_tests)
skipped (suc k) ds h = skipped k ds h

-- digits are proper where the first is above 0 or the only one
proper_digits : (ds : List ℕ) → all_digits ds ≡ true → (length ds ≡ 1) ⊎ ((0 < length ds) × (48 < get_or ds 0 0)) → proper ds ≡ true
proper_digits ds all (inl one) = grind (arith, nat_tests)
proper_digits ds all (inr more) = grind (arith, nat_tests)

-- a number is written by one digit, or its first digit is above 0
leads : (n : ℕ) → n < 2 ^ 64 → (decimal n ≡ (48 + n) ∷ []) ⊎ (48 < get_or (decimal n) 0 0)
leads zero h = inl (decimal_digit 0 (omega arith))
leads (suc n) h = inr (first_decimal (suc n) (omega arith) h)

proper_decimal : (n : ℕ) → n < 2 ^ 64 → (proper (decimal n) ≡ true) × (get_or (decimal n) 0 0 ≡ 32 → ⊥)
proper_decimal n h =
    let all : all_digits (decimal n) ≡ true = digits_decimal own n h in
    let some : 0 < length (decimal n) = decimal_nonempty n h in
    elim (leads n h) [
      | inl one ↦ (
        proper_digits (decimal n) all (inl (ap length one)),
        λ e. let f : get_or (decimal n) 0 0 ≡ 48 + n = ap (λ (ds : List ℕ). get_or ds 0 0) one in omega arith,
      )
      | inr more ↦ (proper_digits (decimal n) all (inr (some, more)), λ e. omega arith)
    ]

pub reads_back : (w n : ℕ) → n < 2 ^ 64 → field_number (padded w n) ≡ Some n
reads_back w n h =
    let is = decimal_is n h in
    let lead = proper_decimal n h in
    let value : value_after 0 (decimal n) ≡ n = digits_value-decimal own n h in
    let skip : after_blanks (padded w n) ≡ in_decimal n = skipped (w - length (in_decimal n)) (in_decimal n) (subst (λ (ds : List ℕ). get_or ds 0 0 ≡ 32 → ⊥) is lead.1) in
    let whole : (ds : List ℕ) → proper ds ≡ true → cond (proper ds) (Some (value_after 0 ds)) None ≡ Some (value_after 0 ds) = λ ds e. ap (λ b. cond b (Some (value_after 0 ds)) None) e in
    ap (λ (ds : List ℕ). cond (proper ds) (Some (value_after 0 ds)) None) (skip ∙ sym is) ∙ whole (decimal n) lead.0 ∙ ap Some value
