-- Fields: a number in columns is blanks and then its digits, without leading zeros.
use Rattle.std.specs.Prelude.{ℕ, ◌+◌, ◌-◌, ◌*◌, Bool, true, cond, not, ◌&&◌, ◌||◌, List, [], ◌∷◌, length, Some, None, Option, ◌==◌, nat_le, slice_index}

-- what is left of a field behind its leading blanks
abbrev pub after_blanks : List ℕ → List ℕ
after_blanks [] = []
after_blanks (b ∷ bs) = cond (b == 32) (after_blanks bs) (b ∷ bs)

-- a byte that is a digit
abbrev pub is_digit : ℕ → Bool
is_digit b = nat_le 48 b && nat_le b 57

-- every byte is a digit
abbrev pub all_digits : List ℕ → Bool
all_digits [] = true
all_digits (b ∷ bs) = is_digit b && all_digits bs

-- digits, one at least, that begin with 0 only where the 0 stands alone
abbrev pub proper : List ℕ → Bool
proper ds = all_digits ds && (length ds == 1 || (not (length ds == 0) && not (slice_index ds 0 == 48)))

-- the number that digits write behind a number n, in base ten
abbrev pub value_after : ℕ → List ℕ → ℕ
value_after n [] = n
value_after n (b ∷ bs) = value_after (10 * n + (b - 48)) bs

-- the number that a field holds, if it is written as it should be
abbrev pub field_number : List ℕ → Option ℕ
field_number field = cond (proper (after_blanks field)) (Some (value_after 0 (after_blanks field))) None
