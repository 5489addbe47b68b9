-- The calls of a plan with their arguments, what each answers, and runs of them.
use Rattle.std.specs.Prelude.{ℕ, Bool, List, [], ◌∷◌, Option, Result}
use Rattle.plans.specs.PackingCalls.{Outcome}
use Rattle.plans.specs.declared.change.Change.{Change}
use Rattle.plans.specs.declared.measures.Placed.{Placed}
use Rattle.plans.specs.declared.measures.Sides.{Sides}
use Rattle.plans.specs.declared.pack_refusals.PackRefusal.{PackRefusal}
use Rattle.plans.specs.declared.pack_refusals.PinnedRefusal.{PinnedRefusal}
use Rattle.plans.specs.declared.pack_refusals.RotationRefusal.{RotationRefusal}
use Rattle.plans.specs.declared.refusals.ChangeRefusal.{ChangeRefusal}
use Rattle.plans.specs.declared.refusals.LoadRefusal.{LoadRefusal}
use Rattle.plans.specs.declared.refusals.PlanRefusal.{PlanRefusal}
use Rattle.plans.specs.declared.refusals.TrialRefusal.{TrialRefusal}

-- what moves a plan: a load of codes and a sequence, a change, a keep, an undo
pub data Act : Type 0 where
  load : List ℕ → List ℕ → Act
  change : Change → Act
  keep : Act
  undo : Act

-- what each refuses
abbrev pub ActRefusal : Act → Type 0
ActRefusal (load codes sequence) = PlanRefusal LoadRefusal
ActRefusal (change c) = PlanRefusal ChangeRefusal
ActRefusal keep = TrialRefusal
ActRefusal undo = TrialRefusal

-- an act with its answer; the decision that goes along with an answer is a token beside the plan, and not told
pub record Acted : Type 0 where
  pub act : Act
  pub answer : Result (Unit {0}) (ActRefusal act)

-- what every packing is handed, in one kind of length: the sides, and the result list as it was
pub record Handed (L : Type 0) : Type 0 where
  pub sides : List (Sides L)
  pub before : List (Placed L)

-- the three packings: alone, with a module pinned across and upwards, with a module rotated once more
pub data Packing (L : Type 0) : Type 0 where
  pack : Handed L → Packing L
  pack_pinned : Handed L → ℕ → L → L → Packing L
  pack_with_rotation : Handed L → ℕ → Packing L

-- what each answers, with the result list after it
abbrev pub PackingOutcome : {L : Type 0} → Packing L → Type 0
PackingOutcome {L} (pack h) = Outcome L PackRefusal
PackingOutcome {L} (pack_pinned h a across up) = Outcome L PinnedRefusal
PackingOutcome {L} (pack_with_rotation h a) = Outcome L RotationRefusal

-- what one may ask: the number of modules, the code at (i, j), the module at a place of the sequence, whether a
-- module is rotated, whether a trial is open
pub data Question : Type 0 where
  how_many : Question
  code_between : ℕ → ℕ → Question
  module_in : ℕ → Question
  whether_rotated : ℕ → Question
  whether_on_trial : Question

-- what each tells
abbrev pub Reply : Question → Type 0
Reply how_many = ℕ
Reply (code_between i j) = ℕ
Reply (module_in place) = Option ℕ
Reply (whether_rotated a) = Bool
Reply whether_on_trial = Bool

-- a call: an act, a packing in one of a family of kinds of length, or a question
pub data Call {I : Type 0} (L : I → Type 0) : Type 0 where
  acts : Act → Call L
  packs : (kind : I) → Packing (L kind) → Call L
  asks : Question → Call L

module _ {I : Type 0} {L : I → Type 0} where
  -- what each answers
  abbrev pub AnswerTo : Call L → Type 0
  AnswerTo (acts a) = Result (Unit {0}) (ActRefusal a)
  AnswerTo (packs kind p) = PackingOutcome p
  AnswerTo (asks q) = Reply q

-- a call with what it answered
pub record Told {I : Type 0} (L : I → Type 0) : Type 0 where
  pub call : Call L
  pub answer : AnswerTo call

-- the calls of a run without their answers
abbrev pub calls_of : {I : Type 0} {L : I → Type 0} → List (Told L) → List (Call L)
calls_of [] = []
calls_of (t ∷ ts) = t.call ∷ calls_of ts
