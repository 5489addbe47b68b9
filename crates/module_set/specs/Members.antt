-- The members of a set of modules.
use Rattle.std.specs.Prelude.{◌≡◌, ℕ, ◌/◌, ◌%◌, ◌^◌, Bool, false, not, ◌&&◌, Some, None, Option, ◌==◌, nat_lt}
use Rattle.plans.specs.Search.{some_below, count_below, first_below}
use Rattle.module_set.specs.declared.set.ModuleSet.{ModuleSet}

-- whether bit k of a number is set
abbrev pub bit_set : ℕ → ℕ → Bool
bit_set x k = (x / 2 ^ k) % 2 == 1

-- whether module k is in a set: its bit is set, and it is one of 0 to 63
unfoldable pub member : ModuleSet → ℕ → Bool
member s k = nat_lt k 64 && bit_set s.bits k

-- the set of no modules
abbrev pub no_module : ModuleSet
no_module = record { bits = 0 }

-- whether a set has no member
unfoldable pub no_member : ModuleSet → Bool
no_member s = not (some_below 64 (member s))

-- whether each member of a set is one of the other
unfoldable pub in_set : ModuleSet → ModuleSet → Bool
in_set s t = not (some_below 64 (λ k. member s k && not (member t k)))

-- the least member of a set
unfoldable pub least_member : ModuleSet → Option ℕ
least_member s = first_below 64 (member s)

-- how many members a set has
unfoldable pub member_count : ModuleSet → ℕ
member_count s = count_below 64 (member s)

-- whether a number is the one that was found
abbrev pub is_this : Option ℕ → ℕ → Bool
is_this (Some i) k = k == i
is_this None k = false

-- the least member is found and taken out, or there is none
abbrev pub TakesLeast : ModuleSet → Option ℕ → ModuleSet → Type 0
TakesLeast s r t = (r ≡ least_member s) × ((k : ℕ) → member t k ≡ (member s k && not (is_this r k)))
