-- The account of a plan, read off the answers that were given: its making or last accepted load, the changes kept
-- since, and the one on trial.
use Rattle.std.specs.Prelude.{ℕ, Bool, true, false, List, [], ◌∷◌, ◌++◌, is_ok, Some, None, Option}
use Rattle.plans.specs.Calls.{Act, load, change, keep, undo, Acted, Call, acts, packs, asks, AnswerTo, Told}
use Rattle.plans.specs.Changes.{changed}
use Rattle.plans.specs.Model.{State, Layout, made_of, unrotated, settled, on_trial, layout_after}
use Rattle.plans.specs.Tables.{Floorplan, given}
use Rattle.plans.specs.declared.change.Change.{Change}

-- what a plan came from: its making, or its last accepted load
pub data Origin : Type 0 where
  making : Origin
  loading : List ℕ → List ℕ → Origin

-- what a plan came from, the changes kept since in their order, and the one on trial
pub record Account : Type 0 where
  pub origin : Origin
  pub kept : List Change
  pub trial : Option Change

-- a plan that was just made
abbrev pub new_account : Account
new_account = record { origin = making; kept = []; trial = None }

-- the change in an option, as a list
abbrev pub listed : Option Change → List Change
listed None = []
listed (Some c) = c ∷ []

-- an accepted act: a load is the new origin, a change is on trial, a keep keeps it, an undo drops it
abbrev pub note_act : Account → Act → Account
note_act a (load codes sequence) = record a { origin = loading codes sequence; kept = []; trial = None }
note_act a (change c) = record a { trial = Some c }
note_act a keep = record a { kept = a.kept ++ listed a.trial; trial = None }
note_act a undo = record a { trial = None }

-- an act by whether it was accepted: a refused one changes nothing
abbrev pub note_if : Bool → Account → Act → Account
note_if true a act = note_act a act
note_if false a act = a

-- acts with their answers, in turn
abbrev pub account_from : Account → List Acted → Account
account_from a [] = a
account_from a (t ∷ ts) = account_from (note_if (is_ok t.answer) a t.act) ts

-- a layout after one change
abbrev pub changed_layout : Layout → Change → Layout
changed_layout l c = layout_after l c (changed l.plan c)

-- and after several in turn
abbrev pub replayed : Layout → List Change → Layout
replayed l [] = l
replayed l (c ∷ cs) = replayed (changed_layout l c) cs

-- the layout of an origin: the one at the making, or the loaded floorplan with no module rotated
abbrev pub origin_layout : Layout → Origin → Layout
origin_layout made making = made
origin_layout made (loading codes sequence) = unrotated (given codes sequence)

-- a layout with a change on trial, or with none
abbrev pub with_trial : State → Layout → Option Change → State
with_trial s l None = settled s l
with_trial s l (Some c) = on_trial s l (changed_layout l c)

-- the state that an account gives of a plan that was made so: the origin, then the changes kept, then the one on trial
abbrev pub account_state : State → Account → State
account_state made a = with_trial made (replayed (origin_layout made.current a.origin) a.kept) a.trial

module _ {I : Type 0} {L : I → Type 0} where
  -- one call before others: an act with its answer; packings and questions are left out
  abbrev pub act_before : (c : Call L) → AnswerTo c → List Acted → List Acted
  act_before (acts a) answer others = record { act = a; answer = answer } ∷ others
  act_before (packs kind p) outcome others = others
  act_before (asks q) reply others = others

  -- the acts of a run
  abbrev pub acts_of : List (Told L) → List Acted
  acts_of [] = []
  acts_of (t ∷ ts) = act_before t.call t.answer (acts_of ts)

  -- what a plan is after calls with the answers that they gave: what it was made over or the last accepted load, then
  -- the changes kept since, then the one on trial
  abbrev pub accounted : Floorplan → List (Told L) → State
  accounted made ts = account_state (made_of made) (account_from new_account (acts_of ts))
