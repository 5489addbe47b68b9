-- Runs of a plan: values of it one after another, each led to from the one before by what a public call promises.
use Rattle.std.specs.Prelude.{◌≡◌, List, [], ◌∷◌, Result}
use Rattle.plans.specs.Calls as calls
use Rattle.plans.specs.Calls.{Act, ActRefusal, Acted, Packing, PackingOutcome, Question, Reply, Call, AnswerTo, Told}
use Rattle.plans.specs.Kinds.{Kind}
use Rattle.plans.specs.declared.refusals.ChangeRefusal.{ChangeRefusal}
use Rattle.plans.specs.declared.refusals.PlanRefusal.{PlanRefusal}
use Rattle.planner.specs.Calls.{Loads, ChangesBy, EndsKept, EndsUndone, PacksPlan, PacksPlanPinned, PacksPlanRotated, Replies, without_decision, without_return}
use Rattle.planner.specs.declared.decision.Decision.{Decision}
use Rattle.planner.specs.declared.decision.Undecided.{Undecided}
use Rattle.planner.specs.declared.plan.Plan.{Plan}
use Rattle.representations.specs.declared.representation.Representation.{Ghosts}

module _ {R : Type 0} {g : Ghosts R} where
  -- what load, change, keep and undo promise; the decision in an answer is left out of what is told. A rotation, a swap,
  -- a reverse and a move by their own methods are changes; ending a plan ends its run
  abbrev pub ActLinks : Plan R g → (a : Act) → Result (Unit {0}) (ActRefusal a) → Plan R g → Type 0
  ActLinks before (calls.load codes sequence) told after = Loads before after codes sequence told
  ActLinks before (calls.change c) told after =
      (answer : Result Decision (PlanRefusal ChangeRefusal)) × (told ≡ without_decision answer) × ChangesBy before after c answer
  ActLinks before calls.keep told after =
      (answer : Result (Unit {0}) Undecided) × (told ≡ without_return answer) × EndsKept before after answer
  ActLinks before calls.undo told after =
      (answer : Result (Unit {0}) Undecided) × (told ≡ without_return answer) × EndsUndone before after answer

  -- what a packing promises
  abbrev pub PackingLinks : {L : Type 0} → Kind L → Plan R g → (p : Packing L) → PackingOutcome p → Type 0
  PackingLinks K now (calls.pack h) o = PacksPlan K now h.sides h.before o.answer o.results
  PackingLinks K now (calls.pack_pinned h a across up) o =
      PacksPlanPinned K now h.sides h.before (record { «module» = a; across = across; up = up }) o.answer o.results
  PackingLinks K now (calls.pack_with_rotation h a) o = PacksPlanRotated K now h.sides h.before a o.answer o.results

  module _ {I : Type 0} {L : I → Type 0} (K : (kind : I) → Kind (L kind)) where
    -- what a call promises; a packing and a question have the plan by a shared reference, so it is the same after them
    abbrev pub Links : Plan R g → (c : Call L) → AnswerTo c → Plan R g → Type 0
    Links before (calls.acts a) told after = ActLinks before a told after
    Links before (calls.packs kind p) told after = PackingLinks (K kind) before p told × (after ≡ before)
    Links before (calls.asks q) told after = Replies before q told × (after ≡ before)

    -- calls with their answers, one after another
    abbrev pub Run : Plan R g → List (Told L) → Plan R g → Type 0
    Run before [] after = after ≡ before
    Run before (t ∷ ts) after = (next : Plan R g) × Links before t.call t.answer next × Run next ts after
