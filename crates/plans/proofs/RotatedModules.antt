-- Calls leave rotated only what are modules.
use Rattle.std.proofs.Common.{◌≡◌, leb, List, [], ◌∷◌, Some, None, Ok, Err, Option, Result, refl, arith}
use Rattle.std.proofs.lemmas.Bool.Decides.{nat_tests}
use Rattle.plans.proofs.Accepted.{refusing_none}
use Rattle.plans.proofs.ModelLaw.{none_noted, one_noted}
use Rattle.plans.specs.Calls.{Act, load, change, keep, undo, Call, acts, packs, asks}
use Rattle.plans.specs.Changes.{change_refusal, changed, unless, after_load}
use Rattle.plans.specs.Model.{State, Layout, made_of, load_step, change_step, keep_step, undo_step, layout_after}
use Rattle.plans.specs.ModelLaw.{WhatNoted, RotatesModules, RotatesWithin, RunsRotate}
use Rattle.plans.specs.ModelRuns.{model_act, after_call, after_calls}
use Rattle.plans.specs.Tables.{Floorplan}
use Rattle.plans.specs.declared.change.Change.{Change}
use Rattle.plans.specs.declared.change.Change.TheVariants.{Rotate, Swap, Reverse, MoveEdge}
use Rattle.plans.specs.declared.refusals.ChangeRefusal.{ChangeRefusal}
use Rattle.plans.specs.declared.refusals.LoadRefusal.{LoadRefusal}
use Rattle.plans.specs.declared.refusals.ChangeRefusal.TheVariants.{NoModule}

-- an accepted change rotates only a module, and leaves how many there are
changed_rotates :
    (l : Layout) (c : Change) → change_refusal l.plan c ≡ None → RotatesModules l
    → RotatesModules (layout_after l c (changed l.plan c))
changed_rotates l (Rotate a) none r i beyond =
    let within = refusing_none (leb l.plan.size a) NoModule none in
    let kept = r i beyond in
    grind (arith, nat_tests)
changed_rotates l (Swap a b) none r i beyond = r i beyond
changed_rotates l (Reverse a b) none r i beyond = r i beyond
changed_rotates l (MoveEdge a b) none r i beyond = r i beyond

load_rotates :
    (s : State) (n : Option Layout) (given : Result Floorplan LoadRefusal) → RotatesWithin s
    → RotatesWithin (load_step s n given).state
load_rotates s (Some l) given r = r
load_rotates s None (Err e) r = r
load_rotates s None (Ok p) r = (λ i beyond. refl, none_noted RotatesModules)

change_rotates :
    (s : State) (c : Change) (n : Option Layout) (o : Option ChangeRefusal) → change_refusal s.current.plan c ≡ o
    → RotatesWithin s → RotatesWithin (change_step s c n (unless o (changed s.current.plan c))).state
change_rotates s c (Some l) o e r = r
change_rotates s c None (Some f) e r = r
change_rotates s c None None e r = (changed_rotates s.current c e r.0, one_noted RotatesModules s.current r.0)

keep_rotates : (s : State) (n : Option Layout) → RotatesWithin s → RotatesWithin (keep_step s n).state
keep_rotates s (Some l) r = (r.0, none_noted RotatesModules)
keep_rotates s None r = r

undo_rotates : (s : State) (n : Option Layout) → RotatesWithin s → WhatNoted RotatesModules n → RotatesWithin (undo_step s n).state
undo_rotates s (Some l) r before = (before l refl, none_noted RotatesModules)
undo_rotates s None r before = r

-- an act leaves rotated only what are modules
pub act_rotates : (s : State) (a : Act) → RotatesWithin s → RotatesWithin (model_act s a).state
act_rotates s (load codes q) r = load_rotates s s.noted (after_load codes q) r
act_rotates s (change c) r = change_rotates s c s.noted (change_refusal s.current.plan c) refl r
act_rotates s keep r = keep_rotates s s.noted r
act_rotates s undo r = undo_rotates s s.noted r r.1

-- a plan as it is made rotates none
pub made_rotates : (p : Floorplan) → RotatesWithin (made_of p)
made_rotates p = (λ i beyond. refl, none_noted RotatesModules)

module _ {I : Type 0} {L : I → Type 0} where
  call_rotates : (s : State) (c : Call L) → RotatesWithin s → RotatesWithin (after_call s c)
  call_rotates s (acts a) r = act_rotates s a r
  call_rotates s (packs kind p) r = r
  call_rotates s (asks q) r = r

  calls_rotate : (s : State) (cs : List (Call L)) → RotatesWithin s → RotatesWithin (after_calls s cs)
  calls_rotate s [] r = r
  calls_rotate s (c ∷ cs) r = calls_rotate (after_call s c) cs (call_rotates s c r)

pub runs_rotate : {I : Type 0} (L : I → Type 0) → RunsRotate L
runs_rotate L p cs = calls_rotate (made_of p) cs (made_rotates p)
