-- The published repair of the packing sequence after a reverse.
use Rattle.std.specs.Prelude.{◌≡◌, ℕ, None}
use Rattle.plans.specs.Changes.{change_refusal, changed}
use Rattle.plans.specs.Sequences.{repaired}
use Rattle.plans.specs.Tables.{Floorplan, Feasible, table_in}
use Rattle.plans.specs.declared.change.Change.TheVariants.{Reverse}

-- of every feasible floorplan and accepted reverse, the repaired sequence is the one that the reverse gives
abbrev pub RepairFits : Type 0
RepairFits =
    (p : Floorplan) (a b : ℕ) → Feasible p → change_refusal p (Reverse a b) ≡ None
    → repaired (table_in p) (table_in p a b) a b p.sequence ≡ (changed p (Reverse a b)).sequence
