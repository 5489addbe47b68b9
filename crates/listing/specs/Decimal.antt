-- How a whole number is written: its decimal digits as ASCII bytes, with no leading zeros.
use Rattle.std.specs.Prelude.{ℕ, zero, suc, ◌+◌, ◌/◌, ◌%◌, cond, List, [], ◌∷◌, ◌++◌, nat_lt}

-- The last k digits of n, or all where it has fewer. The byte of digit d is 48 + d.
unfoldable pub last_digits : ℕ → ℕ → List ℕ
last_digits zero n = []
last_digits (suc k) n = cond (nat_lt n 10) ((48 + n) ∷ []) (last_digits k (n / 10) ++ ((48 + n % 10) ∷ []))

-- All digits of n: there are at most n + 1.
unfoldable pub in_decimal : ℕ → List ℕ
in_decimal n = last_digits (suc n) n
