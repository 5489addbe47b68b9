-- Total orders of the numbers below a bound, and the one list that runs along such an order.
use Rattle.std.specs.Prelude.{◌≡◌, ℕ, ◌<◌, Bool, true, false, ◌≢◌, ◌⊎◌, List, slice_index}
use Rattle.plans.specs.Sequences.{count_before, ordered_by}
use Rattle.plans.specs.Tables.{Sequenced}

-- a strict order of the numbers below m in which any two of them compare
pub record TotalOrder (m : ℕ) (before : ℕ → ℕ → Bool) : Type 0 where
  -- no number is before itself
  pub strict : (i : ℕ) → i < m → before i i ≡ false
  -- before one that is before a third is before the third
  pub transitive :
      (i j k : ℕ) → i < m → j < m → k < m → before i j ≡ true → before j k ≡ true → before i k ≡ true
  -- of two different numbers one is before the other
  pub total : (i j : ℕ) → i < m → j < m → i ≢ j → (before i j ≡ true) ⊎ (before j i ≡ true)

-- a list that names each number below m once, and each after all that are before it
abbrev pub RunsAlong : ℕ → (ℕ → ℕ → Bool) → List ℕ → Type 0
RunsAlong m before s = Sequenced m (λ i j. before i j ≡ true) s

-- what placing each number by the count of those before it gives
pub record OrderedByCount (m : ℕ) (before : ℕ → ℕ → Bool) : Type 0 where
  -- a list along the order
  pub runs : RunsAlong m before (ordered_by m before)
  -- what stands earlier is before
  pub earlier :
      (k l : ℕ) → k < l → l < m → before (slice_index (ordered_by m before) k) (slice_index (ordered_by m before) l) ≡ true
  -- each number stands at the place that counts those before it
  pub placed : (i : ℕ) → i < m → (count_before m before i < m) × (slice_index (ordered_by m before) (count_before m before i) ≡ i)
  -- and no other list runs along the order
  pub only : (s : List ℕ) → RunsAlong m before s → s ≡ ordered_by m before

-- for every total order
abbrev pub CountingOrders : Type 0
CountingOrders = (m : ℕ) (before : ℕ → ℕ → Bool) → TotalOrder m before → OrderedByCount m before
