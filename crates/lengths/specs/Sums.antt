-- What a sum of two lengths promises.
use Rattle.std.specs.Prelude.{◌≡◌, ℕ, ◌+◌, ◌-◌, ◌^◌, ◌≤◌}
use Rattle.plans.specs.Kinds.{Kind, sum_limit}

-- where the extents of a and b together are within the limit, r is their sum
abbrev pub SumWithin : {L : Type 0} → Kind L → L → L → L → Type 0
SumWithin K a b r = K.reach a + K.reach b ≤ sum_limit → r ≡ K.plus a b

-- the greatest number that a length can have in store
abbrev pub greatest : ℕ
greatest = 2 ^ 32 - 1
