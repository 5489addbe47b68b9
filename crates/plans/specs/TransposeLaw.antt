-- The law of transposition: exchanging the axes is its own inverse, and goes along with loads and changes.
use Rattle.std.specs.Prelude.{◌≡◌, ℕ, List, map, Ok, Err, Result}
use Rattle.plans.specs.Changes.{after_load, after_change}
use Rattle.plans.specs.Tables.{Floorplan, Feasible, table_in}
use Rattle.plans.specs.Transposed.{other_code, transpose, transpose_table}
use Rattle.plans.specs.declared.change.Change.{Change}

-- a floorplan that was made, with its axes exchanged; a refusal as it is
abbrev pub transpose_made : {E : Type 0} → Result Floorplan E → Result Floorplan E
transpose_made (Ok p) = Ok (transpose p)
transpose_made (Err e) = Err e

-- what exchanging the axes keeps
pub record TransposeLaw : Type 0 where
  -- twice is the floorplan itself
  pub inverse : (p : Floorplan) → transpose (transpose p) ≡ p
  -- what it tells: the same modules and sequence, with codes 1 and 2 exchanged
  pub codes : (p : Floorplan) (i j : ℕ) → table_in (transpose p) i j ≡ transpose_table (table_in p) i j
  -- it keeps a floorplan feasible
  pub feasible : (p : Floorplan) → Feasible p → Feasible (transpose p)
  -- a load of exchanged codes gives the exchanged floorplan, or the same refusal
  pub loads : (codes s : List ℕ) → after_load (map other_code codes) s ≡ transpose_made (after_load codes s)
  -- and so does a change
  pub changes : (p : Floorplan) (c : Change) → after_change (transpose p) c ≡ transpose_made (after_change p c)
