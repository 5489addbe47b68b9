-- The model: a plan's state, and what each call answers and makes of it.
use Rattle.std.specs.Prelude.{ℕ, Bool, false, List, Some, None, Ok, Err, Option, Result}
use Rattle.plans.specs.Changes.{after_load, after_change}
use Rattle.plans.specs.Packing.{Task, rotated_once}
use Rattle.plans.specs.Tables.{Floorplan}
use Rattle.plans.specs.declared.change.Change.{Change}
use Rattle.plans.specs.declared.change.Change.TheVariants.{Rotate, Swap, Reverse, MoveEdge}
use Rattle.plans.specs.declared.measures.Sides.{Sides}
use Rattle.plans.specs.declared.refusals.PlanRefusal.{PlanRefusal}
use Rattle.plans.specs.declared.refusals.PlanRefusal.TheVariants.{TrialOpen, Refused}
use Rattle.plans.specs.declared.refusals.LoadRefusal.{LoadRefusal}
use Rattle.plans.specs.declared.refusals.ChangeRefusal.{ChangeRefusal}
use Rattle.plans.specs.declared.refusals.TrialRefusal.{TrialRefusal}
use Rattle.plans.specs.declared.refusals.TrialRefusal.TheVariants.{NoTrial}

-- a floorplan with its rotated modules
pub record Layout : Type 0 where
  pub plan : Floorplan
  pub rotated : ℕ → Bool

-- what is current and, in an open trial, what was current before it
pub record State : Type 0 where
  pub current : Layout
  pub noted : Option Layout

-- a floorplan with no module rotated
abbrev pub unrotated : Floorplan → Layout
unrotated p = record { plan = p; rotated = λ i. false }

-- a plan as it is made over a representation of p
abbrev pub made_of : Floorplan → State
made_of p = record { current = unrotated p; noted = None }

-- a layout is current, and no trial is open
abbrev pub settled : State → Layout → State
settled s now = record s { current = now; noted = None }

-- a layout after a change is current, and what was current before is noted
abbrev pub on_trial : State → Layout → Layout → State
on_trial s before now = record s { current = now; noted = Some before }

-- which modules are rotated after a change
abbrev pub rotated_after : (ℕ → Bool) → Change → ℕ → Bool
rotated_after r (Rotate a) = rotated_once r a
rotated_after r (Swap a b) = r
rotated_after r (Reverse a b) = r
rotated_after r (MoveEdge a b) = r

-- a call's answer with the state after it; the decision that a done change hands out, and that keep and undo spend,
-- is a token beside the plan and no part of the model
pub record Step (E : Type 0) : Type 0 where
  pub state : State
  pub answer : Result (Unit {0}) E

-- a refused call leaves the state
abbrev pub refused : {E : Type 0} → State → E → Step E
refused s e = record { state = s; answer = Err e }

-- an accepted call
abbrev pub done : {E : Type 0} → State → Step E
done s = record { state = s; answer = Ok tt }

-- a load by whether a trial is open and by what it gives
abbrev pub load_step : State → Option Layout → Result Floorplan LoadRefusal → Step (PlanRefusal LoadRefusal)
load_step s (Some before) given = refused s TrialOpen
load_step s None (Err e) = refused s (Refused e)
load_step s None (Ok p) = done (settled s (unrotated p))

-- load: refused in a trial; else it replaces the floorplan and leaves no module rotated
abbrev pub model_load : State → List ℕ → List ℕ → Step (PlanRefusal LoadRefusal)
model_load s codes sequence = load_step s s.noted (after_load codes sequence)

-- a layout after a change of its floorplan
abbrev pub layout_after : Layout → Change → Floorplan → Layout
layout_after l c p = record l { plan = p; rotated = rotated_after l.rotated c }

-- a change by whether a trial is open and by what it gives
abbrev pub change_step : State → Change → Option Layout → Result Floorplan ChangeRefusal → Step (PlanRefusal ChangeRefusal)
change_step s c (Some before) given = refused s TrialOpen
change_step s c None (Err e) = refused s (Refused e)
change_step s c None (Ok p) = done (on_trial s s.current (layout_after s.current c p))

-- change: refused in a trial; else it opens one, which notes what was current
abbrev pub model_change : State → Change → Step (PlanRefusal ChangeRefusal)
model_change s c = change_step s c s.noted (after_change s.current.plan c)

-- a keep by whether a trial is open
abbrev pub keep_step : State → Option Layout → Step TrialRefusal
keep_step s None = refused s NoTrial
keep_step s (Some before) = done (settled s s.current)

-- keep: refused without a trial; else it drops what was noted
abbrev pub model_keep : State → Step TrialRefusal
model_keep s = keep_step s s.noted

-- an undo by whether a trial is open
abbrev pub undo_step : State → Option Layout → Step TrialRefusal
undo_step s None = refused s NoTrial
undo_step s (Some before) = done (settled s before)

-- undo: refused without a trial; else it restores what was noted
abbrev pub model_undo : State → Step TrialRefusal
model_undo s = undo_step s s.noted

-- what a packing of a state packs
abbrev pub task_at : {L : Type 0} → State → List (Sides L) → Task L
task_at s sides = record { plan = s.current.plan; rotated = s.current.rotated; sides = sides }
