-- A floorplan with its two axes exchanged.
use Rattle.std.specs.Prelude.{ℕ, cond, map, ◌==◌}
use Rattle.plans.specs.Tables.{Table, Floorplan}

-- codes 1 and 2 exchanged, any other as it is
abbrev pub other_code : ℕ → ℕ
other_code code = cond (code == 1) 2 (cond (code == 2) 1 code)

-- a table with its graphs exchanged
abbrev pub transpose_table : Table → Table
transpose_table c i j = other_code (c i j)

-- a floorplan with its graphs exchanged, and the same sequence
abbrev pub transpose : Floorplan → Floorplan
transpose p = record { size = p.size; codes = map other_code p.codes; sequence = p.sequence }
