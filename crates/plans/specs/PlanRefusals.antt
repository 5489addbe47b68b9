-- When each refusal of a plan applies, and the laws that the first is answered and leaves the state.
use Rattle.std.specs.Prelude.{◌≡◌, ℕ, true, false, List, is_ok, is_some, Some, None, Ok, Err, Option, Result}
use Rattle.plans.specs.Calls.{Act}
use Rattle.plans.specs.FirstRefusals.{FirstRefusal}
use Rattle.plans.specs.LoadLaw.{LoadApplies}
use Rattle.plans.specs.Model.{State, model_load, model_change, model_keep, model_undo}
use Rattle.plans.specs.ModelRuns.{model_act}
use Rattle.plans.specs.Numbers.{number_of_load, number_of_change, number_of_trial, told_by_load, told_by_change, told_by_plan, told_by_trial}
use Rattle.plans.specs.RefusalLaws.{ChangeApplies}
use Rattle.plans.specs.declared.change.Change.{Change}
use Rattle.plans.specs.declared.refusals.ChangeRefusal.{ChangeRefusal}
use Rattle.plans.specs.declared.refusals.LoadRefusal.{LoadRefusal}
use Rattle.plans.specs.declared.refusals.PlanRefusal.{PlanRefusal}
use Rattle.plans.specs.declared.refusals.PlanRefusal.TheVariants.{TrialOpen, Refused}
use Rattle.plans.specs.declared.refusals.TrialRefusal.{TrialRefusal}
use Rattle.plans.specs.declared.refusals.TrialRefusal.TheVariants.{NoTrial}

-- the refusal in an answer, if it is one
abbrev pub refusal_in : {E : Type 0} → Result (Unit {0}) E → Option E
refusal_in (Ok u) = None
refusal_in (Err e) = Some e

-- an open trial comes before all other refusals of a load or a change, which come by their numbers
abbrev pub rank_of_plan : {E : Type 0} → (E → ℕ) → PlanRefusal E → ℕ
rank_of_plan number TrialOpen = 0
rank_of_plan number (Refused e) = number e

-- when each refusal of a plan applies, by when those of its representation do
abbrev pub PlanApplies : {E : Type 0} → State → (E → Type 0) → PlanRefusal E → Type 0
PlanApplies s Applies TrialOpen = is_some s.noted ≡ true
PlanApplies s Applies (Refused e) = Applies e

-- when each refusal of a plan's load applies
abbrev pub PlanLoadApplies : State → List ℕ → List ℕ → PlanRefusal LoadRefusal → Type 0
PlanLoadApplies s codes sequence = PlanApplies s (LoadApplies codes sequence)

-- when each refusal of a plan's change applies
abbrev pub PlanChangeApplies : State → Change → PlanRefusal ChangeRefusal → Type 0
PlanChangeApplies s c = PlanApplies s (ChangeApplies s.current.plan c)

-- when a keep or an undo is refused
abbrev pub TrialApplies : State → TrialRefusal → Type 0
TrialApplies s NoTrial = is_some s.noted ≡ false

-- each call of a plan answers its first refusal, and a refused call leaves the state
pub record PlanRefusals : Type 0 where
  pub load :
      (s : State) (codes sequence : List ℕ)
      → FirstRefusal (rank_of_plan number_of_load) (told_by_plan told_by_load) (PlanLoadApplies s codes sequence) (refusal_in (model_load s codes sequence).answer)
  pub change :
      (s : State) (c : Change)
      → FirstRefusal (rank_of_plan number_of_change) (told_by_plan told_by_change) (PlanChangeApplies s c) (refusal_in (model_change s c).answer)
  pub keep : (s : State) → FirstRefusal number_of_trial told_by_trial (TrialApplies s) (refusal_in (model_keep s).answer)
  pub undo : (s : State) → FirstRefusal number_of_trial told_by_trial (TrialApplies s) (refusal_in (model_undo s).answer)
  pub leaves : (s : State) (a : Act) → is_ok (model_act s a).answer ≡ false → (model_act s a).state ≡ s
