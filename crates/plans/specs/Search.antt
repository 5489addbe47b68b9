-- Looking for the first, some or all of the numbers below a bound, and for the first pair in row order.
use Rattle.std.specs.Prelude.{ℕ, zero, suc, ◌+◌, ◌*◌, ◌/◌, ◌%◌, Bool, false, cond, ◌||◌, List, [], ◌∷◌, Some, None, Option, ◌==◌}
use Rattle.std.specs.Option.{option_map}

-- the first of the n numbers from a on that passes
abbrev pub first_from : ℕ → ℕ → (ℕ → Bool) → Option ℕ
first_from a zero passes = None
first_from a (suc n) passes =
    let later = first_from (a + 1) n passes in
    cond (passes a) (Some a) later

-- the first number below n that passes
abbrev pub first_below : ℕ → (ℕ → Bool) → Option ℕ
first_below n passes = first_from 0 n passes

-- the first (i, j) in row order, both below m, that passes
abbrev pub first_pair : ℕ → (ℕ → ℕ → Bool) → Option (ℕ × ℕ)
first_pair m passes = option_map (λ k. (k / m, k % m)) (first_below (m * m) (λ k. passes (k / m) (k % m)))

-- whether some number below n passes
abbrev pub some_below : ℕ → (ℕ → Bool) → Bool
some_below zero passes = false
some_below (suc n) passes = passes n || some_below n passes

-- how many numbers below n pass
abbrev pub count_below : ℕ → (ℕ → Bool) → ℕ
count_below zero passes = 0
count_below (suc n) passes = count_below n passes + cond (passes n) 1 0

-- the first answer, or else the second
abbrev pub or_else : {X : Type 0} → Option X → Option X → Option X
or_else (Some x) other = Some x
or_else None other = other

-- what is refused where the test holds
abbrev pub refusing : {E : Type 0} → Bool → E → Option E
refusing test refusal = cond test (Some refusal) None

-- the first place of x in a list, or its length
abbrev pub place_of : List ℕ → ℕ → ℕ
place_of [] x = 0
place_of (y ∷ ys) x = cond (y == x) 0 (suc (place_of ys x))
