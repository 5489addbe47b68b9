-- What follows of a plan whose call is a step of the model: the words of the subject, and that only modules are rotated.
use Rattle.std.proofs.Common.{ℕ, List, Result, sym, subst}
use Rattle.plans.proofs.CallsInWords.{steps_in_words}
use Rattle.plans.proofs.RotatedModules.{act_rotates}
use Rattle.plans.specs.Calls.{Act, ActRefusal}
use Rattle.plans.specs.CallsInWords.{AdmitsPublished, ChangesEdges}
use Rattle.plans.specs.Model.{State, model_load, model_change}
use Rattle.plans.specs.ModelLaw.{RotatesWithin}
use Rattle.plans.specs.ModelRuns.{model_act}
use Rattle.plans.specs.Tables.{Feasible}
use Rattle.plans.specs.declared.change.Change.{Change}
use Rattle.plans.specs.declared.refusals.ChangeRefusal.{ChangeRefusal}
use Rattle.plans.specs.declared.refusals.LoadRefusal.{LoadRefusal}
use Rattle.plans.specs.declared.refusals.PlanRefusal.{PlanRefusal}
use Rattle.planner.specs.Calls.{Steps}

module _ (s after : State) where
  pub load_admits :
      (codes sequence : List ℕ) (answer : Result (Unit {0}) (PlanRefusal LoadRefusal))
      → Steps (model_load s codes sequence) after answer → AdmitsPublished s codes sequence answer
  load_admits codes sequence answer step =
      subst (AdmitsPublished s codes sequence) (sym step.answers) (steps_in_words.load s codes sequence)

  pub change_edges :
      (c : Change) (answer : Result (Unit {0}) (PlanRefusal ChangeRefusal)) → Feasible s.current.plan
      → Steps (model_change s c) after answer → ChangesEdges s after c answer
  change_edges c answer f step =
      subst (λ (x : State). ChangesEdges s x c answer) (sym step.leads)
      (subst (ChangesEdges s (model_change s c).state c) (sym step.answers) (steps_in_words.change s c f))

  pub act_rotations :
      (a : Act) (answer : Result (Unit {0}) (ActRefusal a)) → Steps (model_act s a) after answer → RotatesWithin s
      → RotatesWithin after
  act_rotations a answer step within = subst RotatesWithin (sym step.leads) (act_rotates s a within)
