-- Every change that is not refused leaves a feasible floorplan feasible.
use Rattle.std.specs.Prelude.{◌≡◌, None}
use Rattle.plans.specs.Changes.{change_refusal, changed}
use Rattle.plans.specs.Tables.{Floorplan, Feasible}
use Rattle.plans.specs.declared.change.Change.{Change}

-- for every feasible floorplan and every change of it that is accepted
abbrev pub ChangesFeasible : Type 0
ChangesFeasible = (p : Floorplan) (change : Change) → Feasible p → change_refusal p change ≡ None → Feasible (changed p change)
