-- The law of the model: every state that calls reach is feasible and rotates modules alone, with what its trial noted.
use Rattle.std.specs.Prelude.{◌≡◌, ℕ, ◌≤◌, false, List, Some, Option}
use Rattle.plans.specs.Calls.{Call}
use Rattle.plans.specs.Model.{State, Layout, made_of}
use Rattle.plans.specs.ModelRuns.{after_calls}
use Rattle.plans.specs.Tables.{Floorplan, Feasible}

-- a fact of what was noted, if a trial is open
abbrev pub WhatNoted : (Layout → Type 0) → Option Layout → Type 0
WhatNoted Passes noted = (l : Layout) → noted ≡ Some l → Passes l

-- a state whose floorplan is feasible, and whose noted floorplan is too
pub record FeasibleState (s : State) : Type 0 where
  pub current : Feasible s.current.plan
  pub noted : WhatNoted (λ l. Feasible l.plan) s.noted

-- no number is rotated that is no module's
abbrev pub RotatesModules : Layout → Type 0
RotatesModules l = (i : ℕ) → l.plan.size ≤ i → l.rotated i ≡ false

-- nor in what was noted
abbrev pub RotatesWithin : State → Type 0
RotatesWithin s = RotatesModules s.current × WhatNoted RotatesModules s.noted

-- from a feasible floorplan, calls in any number and order lead to feasible states
abbrev pub RunsFeasible : {I : Type 0} → (I → Type 0) → Type 0
RunsFeasible L =
    (made : Floorplan) → Feasible made → (calls : List (Call L)) → FeasibleState (after_calls (made_of made) calls)

-- and to states that rotate modules alone
abbrev pub RunsRotate : {I : Type 0} → (I → Type 0) → Type 0
RunsRotate L = (made : Floorplan) (calls : List (Call L)) → RotatesWithin (after_calls (made_of made) calls)
