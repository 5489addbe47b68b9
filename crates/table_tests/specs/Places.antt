-- Edges against the places of modules.
use Rattle.std.specs.Prelude.{ℕ, Bool, ◌&&◌, List, nat_lt, slice_index}
use Rattle.plans.specs.Tables.{Table}

-- whether i has an edge to j, which has the lower place
abbrev pub against : Table → List ℕ → ℕ → ℕ → Bool
against c places i j = nat_lt 0 (c i j) && nat_lt (slice_index places j) (slice_index places i)
