-- What is current and what a trial noted as layouts, and what a load or a change makes of rotated modules.
use Rattle.std.specs.Prelude.{◌≡◌, ℕ, Bool, false, Ok, Err, Option, Result}
use Rattle.std.specs.Option.{option_map}
use Rattle.closure_graphs.specs.Meaning.{graphs_mean}
use Rattle.module_set.specs.Members.{member}
use Rattle.plans.specs.Model.{Layout, State, rotated_after}
use Rattle.plans.specs.Tables.{Floorplan}
use Rattle.plans.specs.declared.change.Change.{Change}
use Rattle.plans.specs.declared.refusals.ChangeRefusal.{ChangeRefusal}
use Rattle.plans.specs.declared.refusals.LoadRefusal.{LoadRefusal}
use Rattle.planner.specs.declared.current.Current.{Current}
use Rattle.planner.specs.declared.noted.Noted.{Noted}

-- the layout that is current
abbrev pub layout_of : {R : Type 0} → (R → Floorplan) → Current R → Layout
layout_of means c = record { plan = means c.representation; rotated = member c.rotated }

-- the layout that a trial noted
abbrev pub noted_layout : Noted → Layout
noted_layout n = record { plan = graphs_mean n.graphs; rotated = member n.rotated }

-- the model's state of what is current and what a trial noted
abbrev pub state_in : {R : Type 0} → (R → Floorplan) → Current R → Option Noted → State
state_in means now trial = record { current = layout_of means now; noted = option_map noted_layout trial }

-- the rotated modules after a load: none where it is done, else as they were
abbrev pub Unrotates : Result (Unit {0}) LoadRefusal → (ℕ → Bool) → (ℕ → Bool) → Type 0
Unrotates (Ok u) before after = (k : ℕ) → after k ≡ false
Unrotates (Err e) before after = (k : ℕ) → after k ≡ before k

-- the rotated modules after a change: as the change says where it is done, else as they were
abbrev pub Rotates : Change → Result (Unit {0}) ChangeRefusal → (ℕ → Bool) → (ℕ → Bool) → Type 0
Rotates c (Ok u) before after = (k : ℕ) → after k ≡ rotated_after before c k
Rotates c (Err e) before after = (k : ℕ) → after k ≡ before k
