-- The law of the model.
use Rattle.std.proofs.Common.{◌≡◌, ℕ, List, [], ◌∷◌, Some, None, Option, unwrap_or, refl, ap, subst, arith}
use Rattle.plans.proofs.ChangesFeasible.{changes_feasible}
use Rattle.plans.proofs.LoadLaw.{load_feasible}
use Rattle.plans.specs.Calls.{Act, load, change, keep, undo, Call, acts, packs, asks}
use Rattle.plans.specs.Changes.{change_refusal, changed, unless}
use Rattle.plans.specs.Model.{State, Layout, made_of, load_step, change_step, keep_step, undo_step}
use Rattle.plans.specs.ModelLaw.{WhatNoted, FeasibleState, RunsFeasible}
use Rattle.plans.specs.ModelRuns.{model_act, after_call, after_calls}
use Rattle.plans.specs.Tables.{Floorplan, Feasible, given}
use Rattle.plans.specs.Tests.{load_refusal}
use Rattle.plans.specs.declared.change.Change.{Change}
use Rattle.plans.specs.declared.refusals.LoadRefusal.{LoadRefusal}
use Rattle.plans.specs.declared.refusals.ChangeRefusal.{ChangeRefusal}

-- nothing noted, and one layout noted
pub none_noted : (Passes : Layout → Type 0) → WhatNoted Passes None
none_noted Passes l e = let z : ◌≡◌ {A = ℕ} 0 1 = cc in absurd (omega arith)

pub one_noted : (Passes : Layout → Type 0) (l : Layout) → Passes l → WhatNoted Passes (Some l)
one_noted Passes l p m e = subst Passes (ap (λ o. unwrap_or o l) e) p

-- a layout whose floorplan is feasible
abbrev FeasibleLayout : Layout → Type 0
FeasibleLayout l = Feasible l.plan

load_keeps :
    (s : State) (n : Option Layout) (codes q : List ℕ) (r : Option LoadRefusal) → FeasibleState s → (r ≡ None → Feasible (given codes q))
    → FeasibleState (load_step s n (unless r (given codes q))).state
load_keeps s (Some l) codes q r f made = f
load_keeps s None codes q (Some e) f made = f
load_keeps s None codes q None f made = record { current = made refl; noted = none_noted FeasibleLayout }

change_keeps :
    (s : State) (n : Option Layout) (c : Change) (p : Floorplan) (r : Option ChangeRefusal) → FeasibleState s
    → (r ≡ None → Feasible p) → FeasibleState (change_step s c n (unless r p)).state
change_keeps s (Some l) c p r f made = f
change_keeps s None c p (Some e) f made = f
change_keeps s None c p None f made = record { current = made refl; noted = one_noted FeasibleLayout s.current f.current }

keep_keeps : (s : State) (n : Option Layout) → FeasibleState s → FeasibleState (keep_step s n).state
keep_keeps s (Some l) f = record { current = f.current; noted = none_noted FeasibleLayout }
keep_keeps s None f = f

undo_keeps : (s : State) (n : Option Layout) → FeasibleState s → WhatNoted FeasibleLayout n → FeasibleState (undo_step s n).state
undo_keeps s (Some l) f g = record { current = g l refl; noted = none_noted FeasibleLayout }
undo_keeps s None f g = f

-- an act keeps a state feasible
pub act_keeps : (s : State) (a : Act) → FeasibleState s → FeasibleState (model_act s a).state
act_keeps s (load codes q) f = load_keeps s s.noted codes q (load_refusal codes q) f (load_feasible codes q)
act_keeps s (change c) f =
    change_keeps s s.noted c (changed s.current.plan c) (change_refusal s.current.plan c) f
    (changes_feasible s.current.plan c f.current)
act_keeps s keep f = keep_keeps s s.noted f
act_keeps s undo f = undo_keeps s s.noted f f.noted

module _ {I : Type 0} {L : I → Type 0} where
  -- so does every call, and so do all of a run
  call_keeps : (s : State) (c : Call L) → FeasibleState s → FeasibleState (after_call s c)
  call_keeps s (acts a) f = act_keeps s a f
  call_keeps s (packs kind p) f = f
  call_keeps s (asks q) f = f

  pub calls_keep : (s : State) (cs : List (Call L)) → FeasibleState s → FeasibleState (after_calls s cs)
  calls_keep s [] f = f
  calls_keep s (c ∷ cs) f = calls_keep (after_call s c) cs (call_keeps s c f)

-- a plan that is made over a feasible floorplan
pub made_feasible : (p : Floorplan) → Feasible p → FeasibleState (made_of p)
made_feasible p f = record { current = f; noted = none_noted FeasibleLayout }

pub runs_feasible : {I : Type 0} (L : I → Type 0) → RunsFeasible L
runs_feasible L p f cs = calls_keep (made_of p) cs (made_feasible p f)
