-- What loads and changes of a plan do, in the words of the subject.
use Rattle.std.specs.Prelude.{◌≡◌, ℕ, ◌↔◌, List, None, Ok, Result}
use Rattle.plans.specs.ChangesInWords.{ChangeWords}
use Rattle.plans.specs.Model.{State, model_load, model_change}
use Rattle.plans.specs.Published.{Published}
use Rattle.plans.specs.Tables.{Feasible, given}
use Rattle.plans.specs.declared.change.Change.{Change}

-- where no trial is open, a load is accepted exactly where the published definition admits its table with its sequence
abbrev pub AdmitsPublished : {E : Type 0} → State → List ℕ → List ℕ → Result (Unit {0}) E → Type 0
AdmitsPublished before codes sequence answer = before.noted ≡ None → ((answer ≡ Ok tt) ↔ Published (given codes sequence))

-- after an accepted change each graph has gained and lost the edges that the change's words say
abbrev pub ChangesEdges : {E : Type 0} → State → State → Change → Result (Unit {0}) E → Type 0
ChangesEdges before after c answer = answer ≡ Ok tt → ChangeWords before.current.plan after.current.plan c

-- after an accepted call the floorplan is one that the published definition admits
abbrev pub LeavesPublished : {E : Type 0} → Result (Unit {0}) E → State → Type 0
LeavesPublished answer after = answer ≡ Ok tt → Published after.current.plan

-- the model's steps do so
pub record StepsInWords : Type 0 where
  pub load : (s : State) (codes sequence : List ℕ) → AdmitsPublished s codes sequence (model_load s codes sequence).answer
  pub change :
      (s : State) (c : Change) → Feasible s.current.plan
      → ChangesEdges s (model_change s c).state c (model_change s c).answer
