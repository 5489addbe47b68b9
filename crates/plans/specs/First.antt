-- What "first" means: the one that is found passes, and nothing before it does.
use Rattle.std.specs.Prelude.{◌≡◌, ℕ, ◌<◌, Bool, true, false, ◌⊎◌, Some, None, Option}

-- the first number below n that passes, or none where none does
abbrev pub IsFirst : (ℕ → Bool) → ℕ → Option ℕ → Type 0
IsFirst passes n (Some k) = (k < n) × (passes k ≡ true) × ((l : ℕ) → l < k → passes l ≡ false)
IsFirst passes n None = (l : ℕ) → l < n → passes l ≡ false

-- (k, l) stands before (i, j) in row order
abbrev pub RowBefore : ℕ → ℕ → ℕ → ℕ → Type 0
RowBefore k l i j = (k < i) ⊎ ((k ≡ i) × (l < j))

-- the first pair in row order, both below m, that passes, or none where none does
abbrev pub IsFirstPair : (ℕ → ℕ → Bool) → ℕ → Option (ℕ × ℕ) → Type 0
IsFirstPair passes m (Some q) =
    (q.0 < m) × (q.1 < m) × (passes q.0 q.1 ≡ true)
    × ((k l : ℕ) → k < m → l < m → RowBefore k l q.0 q.1 → passes k l ≡ false)
IsFirstPair passes m None = (k l : ℕ) → k < m → l < m → passes k l ≡ false
