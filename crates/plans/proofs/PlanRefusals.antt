-- A plan's call answers its first refusal: an open trial, or else what its representation refuses.
use Rattle.std.proofs.Common.{◌≡◌, ℕ, ◌<◌, true, false, ◌⊎◌, List, is_some, is_ok, Some, None, Ok, Err, Option, Result, sym, refl, ap, ◌∙◌, subst, inl, inr, ⊎_elim, arith}
use Rattle.std.specs.Option.{option_map}
use Rattle.plans.proofs.ChangeFirst.{change_first}
use Rattle.plans.proofs.LoadFirst.{load_first}
use Rattle.plans.specs.Calls.{Act, load, change, keep, undo}
use Rattle.plans.specs.Changes.{unless, after_load, after_change, changed, change_refusal}
use Rattle.plans.specs.First.{RowBefore}
use Rattle.plans.specs.FirstRefusals.{FirstRefusal, Earlier}
use Rattle.plans.specs.LoadLaw.{LoadApplies}
use Rattle.plans.specs.Model.{State, Layout, load_step, change_step, keep_step, undo_step, model_load, model_change}
use Rattle.plans.specs.ModelRuns.{model_act}
use Rattle.plans.specs.Numbers.{number_of_load, number_of_change, number_of_trial, told_by_load, told_by_change, told_by_plan, told_by_trial}
use Rattle.plans.specs.PlanRefusals.{PlanRefusals, refusal_in, rank_of_plan, PlanApplies, PlanLoadApplies, PlanChangeApplies, TrialApplies}
use Rattle.plans.specs.RefusalLaws.{ChangeApplies}
use Rattle.plans.specs.Tables.{Floorplan, given}
use Rattle.plans.specs.Tests.{load_refusal}
use Rattle.plans.specs.declared.change.Change.{Change}
use Rattle.plans.specs.declared.refusals.LoadRefusal.{LoadRefusal}
use Rattle.plans.specs.declared.refusals.ChangeRefusal.{ChangeRefusal}
use Rattle.plans.specs.declared.refusals.PlanRefusal.{PlanRefusal}
use Rattle.plans.specs.declared.refusals.PlanRefusal.TheVariants.{TrialOpen, Refused}
use Rattle.plans.specs.declared.refusals.TrialRefusal.{TrialRefusal}
use Rattle.plans.specs.declared.refusals.TrialRefusal.TheVariants.{NoTrial}

-- an open trial, or else the refusal of a representation
abbrev first_of : {E : Type 0} → Option Layout → Option E → Option (PlanRefusal E)
first_of (Some l) r = Some TrialOpen
first_of None r = option_map Refused r

-- nothing comes before a refusal of rank 0 that tells nothing
nothing_before : (n a b : ℕ) → (n < 0) ⊎ ((n ≡ 0) × RowBefore a b 0 0) → ⊥
nothing_before n a b (inl h) = omega arith
nothing_before n a b (inr h) = ⊎_elim (λ (x : a < 0). omega arith) (λ x. omega (arith, x.1)) h.1

no_trial : (s : State) (f : TrialRefusal) → TrialApplies s f → is_some s.noted ≡ false
no_trial s NoTrial h = h

no_trial_from : (s : State) → is_some s.noted ≡ false → TrialApplies s NoTrial
no_trial_from s h = h

trial_alone : (f : TrialRefusal) → (number_of_trial f < 30) ⊎ ((number_of_trial f ≡ 30) × RowBefore 0 0 0 0) → ⊥
trial_alone NoTrial (inl h) = omega arith
trial_alone NoTrial (inr h) = nothing_before 0 0 0 (inr (refl, h.1))

-- refusals of a representation among those of a plan, where an open trial comes before all of them
module _ {E : Type 0} (number : E → ℕ) (told : E → List ℕ) (Applies : E → Type 0) (s : State) where
  abbrev First : Option (PlanRefusal E) → Type 0
  First = FirstRefusal (rank_of_plan number) (told_by_plan told) (PlanApplies s Applies)

  abbrev Before : PlanRefusal E → PlanRefusal E → Type 0
  Before = Earlier (rank_of_plan number) (told_by_plan told) (PlanApplies s Applies)

  -- nothing is earlier than an open trial
  none_before : (d : PlanRefusal E) → Before d TrialOpen → ⊥
  none_before TrialOpen h = nothing_before 0 0 0 h
  none_before (Refused e) h = nothing_before (number e) _ _ h

  -- without a trial the first is the representation's
  settled_before : (e : E) → FirstRefusal number told Applies (Some e) → is_some s.noted ≡ false → (d : PlanRefusal E) → Before d (Refused e) → PlanApplies s Applies d → ⊥
  settled_before e first closed TrialOpen b a = let z : true ≡ false = sym a ∙ closed in absurd (grind arith)
  settled_before e first closed (Refused f) b a = first.1 f b a

  none_settled : FirstRefusal number told Applies None → is_some s.noted ≡ false → (d : PlanRefusal E) → PlanApplies s Applies d → ⊥
  none_settled first closed TrialOpen a = let z : true ≡ false = sym a ∙ closed in absurd (grind arith)
  none_settled first closed (Refused f) a = first f a

  -- the first of both by whether a trial is open
  pub first_by : (o : Option Layout) → s.noted ≡ o → (r : Option E) → FirstRefusal number told Applies r → First (first_of o r)
  first_by (Some l) e r first = (ap is_some e, λ d b x. none_before d b)
  first_by None e (Some r) first = (first.0, settled_before r first (ap is_some e))
  first_by None e None first = none_settled first (ap is_some e)

-- the refusal in a step, which is an open trial's or else that of the representation
load_step_lem :
    (s : State) (p : Floorplan) (o : Option Layout) (r : Option LoadRefusal)
    → first_of o r ≡ refusal_in (load_step s o (unless r p)).answer
load_step_lem s p (Some l) r = refl
load_step_lem s p None (Some e) = refl
load_step_lem s p None None = refl

change_step_lem :
    (s : State) (c : Change) (p : Floorplan) (o : Option Layout) (r : Option ChangeRefusal)
    → first_of o r ≡ refusal_in (change_step s c o (unless r p)).answer
change_step_lem s c p (Some l) r = refl
change_step_lem s c p None (Some e) = refl
change_step_lem s c p None None = refl

pub load_refusals :
    (s : State) (codes sequence : List ℕ)
    → FirstRefusal (rank_of_plan number_of_load) (told_by_plan told_by_load) (PlanLoadApplies s codes sequence) (refusal_in (model_load s codes sequence).answer)
load_refusals s codes sequence =
    subst (First number_of_load told_by_load (LoadApplies codes sequence) s)
    (load_step_lem s (given codes sequence) s.noted (load_refusal codes sequence))
    (first_by number_of_load told_by_load (LoadApplies codes sequence) s s.noted refl (load_refusal codes sequence)
    (load_first codes sequence))

pub change_refusals :
    (s : State) (c : Change)
    → FirstRefusal (rank_of_plan number_of_change) (told_by_plan told_by_change) (PlanChangeApplies s c) (refusal_in (model_change s c).answer)
change_refusals s c =
    let p = s.current.plan in
    subst (First number_of_change told_by_change (ChangeApplies p c) s)
    (change_step_lem s c (changed p c) s.noted (change_refusal p c))
    (first_by number_of_change told_by_change (ChangeApplies p c) s s.noted refl (change_refusal p c) (change_first p c))

-- a keep and an undo are refused exactly without a trial
trial_by :
    (s : State) (o : Option Layout) → s.noted ≡ o → (r : Option TrialRefusal)
    → r ≡ elim o [ Some l ↦ None | None ↦ Some NoTrial ] → FirstRefusal number_of_trial told_by_trial (TrialApplies s) r
trial_by s (Some l) e r h =
    subst (FirstRefusal number_of_trial told_by_trial (TrialApplies s)) (sym h)
    (λ f a. let z : true ≡ false = sym (ap is_some e) ∙ no_trial s f a in absurd (grind arith))
trial_by s None e r h =
    subst (FirstRefusal number_of_trial told_by_trial (TrialApplies s)) (sym h)
    (no_trial_from s (ap is_some e), λ f b a. trial_alone f b)

keep_step_lem : (s : State) (o : Option Layout) → refusal_in (keep_step s o).answer ≡ elim o [ Some l ↦ None | None ↦ Some NoTrial ]
keep_step_lem s (Some l) = refl
keep_step_lem s None = refl

undo_step_lem : (s : State) (o : Option Layout) → refusal_in (undo_step s o).answer ≡ elim o [ Some l ↦ None | None ↦ Some NoTrial ]
undo_step_lem s (Some l) = refl
undo_step_lem s None = refl

-- a refused call leaves the state
load_left : (s : State) (o : Option Layout) (r : Result Floorplan LoadRefusal) → is_ok (load_step s o r).answer ≡ false → (load_step s o r).state ≡ s
load_left s (Some l) r h = refl
load_left s None (Ok p) h = absurd (grind arith)
load_left s None (Err e) h = refl

change_left :
    (s : State) (c : Change) (o : Option Layout) (r : Result Floorplan ChangeRefusal)
    → is_ok (change_step s c o r).answer ≡ false → (change_step s c o r).state ≡ s
change_left s c (Some l) r h = refl
change_left s c None (Ok p) h = absurd (grind arith)
change_left s c None (Err e) h = refl

keep_left : (s : State) (o : Option Layout) → is_ok (keep_step s o).answer ≡ false → (keep_step s o).state ≡ s
keep_left s (Some l) h = absurd (grind arith)
keep_left s None h = refl

undo_left : (s : State) (o : Option Layout) → is_ok (undo_step s o).answer ≡ false → (undo_step s o).state ≡ s
undo_left s (Some l) h = absurd (grind arith)
undo_left s None h = refl

left : (s : State) (a : Act) → is_ok (model_act s a).answer ≡ false → (model_act s a).state ≡ s
left s (load codes sequence) h = load_left s s.noted (after_load codes sequence) h
left s (change c) h = change_left s c s.noted (after_change s.current.plan c) h
left s keep h = keep_left s s.noted h
left s undo h = undo_left s s.noted h

pub plan_refusals : PlanRefusals
plan_refusals =
    record {
      load = load_refusals;
      change = change_refusals;
      keep = λ s. trial_by s s.noted refl _ (keep_step_lem s s.noted);
      undo = λ s. trial_by s s.noted refl _ (undo_step_lem s s.noted);
      leaves = left;
    }
