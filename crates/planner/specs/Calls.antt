-- What each call of a plan promises: its answer, the state and the lists after it are the model's at the state before.
use Rattle.std.specs.Prelude.{◌≡◌, ℕ, List, Result}
use Rattle.std.specs.Result.{result_map_both}
use Rattle.packing.specs.Calls.{Packs, PacksPinned, PacksRotated}
use Rattle.packing.specs.declared.pin.Pin.{Pin}
use Rattle.plans.specs.Calls.{Question, Reply}
use Rattle.plans.specs.Kinds.{Kind}
use Rattle.plans.specs.Model.{State, Step, made_of, model_load, model_change, model_keep, model_undo, task_at}
use Rattle.plans.specs.ModelRuns.{model_reply}
use Rattle.plans.specs.Tables.{Floorplan}
use Rattle.plans.specs.declared.change.Change.{Change}
use Rattle.plans.specs.declared.measures.Chip.{Chip}
use Rattle.plans.specs.declared.measures.Placed.{Placed}
use Rattle.plans.specs.declared.measures.Sides.{Sides}
use Rattle.plans.specs.declared.pack_refusals.PackRefusal.{PackRefusal}
use Rattle.plans.specs.declared.pack_refusals.PinnedRefusal.{PinnedRefusal}
use Rattle.plans.specs.declared.pack_refusals.RotationRefusal.{RotationRefusal}
use Rattle.plans.specs.declared.refusals.ChangeRefusal.{ChangeRefusal}
use Rattle.plans.specs.declared.refusals.LoadRefusal.{LoadRefusal}
use Rattle.plans.specs.declared.refusals.PlanRefusal.{PlanRefusal}
use Rattle.plans.specs.declared.refusals.TrialRefusal.{TrialRefusal}
use Rattle.planner.specs.States.{state_of}
use Rattle.planner.specs.declared.decision.Decision.{Decision}
use Rattle.planner.specs.declared.decision.Undecided.{Undecided}
use Rattle.planner.specs.declared.plan.Plan.{Plan}
use Rattle.representations.specs.declared.representation.Representation.{Ghosts}

-- a state and an answer are those of a step of the model
pub record Steps {E : Type 0} (step : Step E) (after : State) (answer : Result (Unit {0}) E) : Type 0 where
  pub leads : after ≡ step.state
  pub answers : answer ≡ step.answer

-- an answer without the decision that it hands out
abbrev pub without_decision : {E : Type 0} → Result Decision E → Result (Unit {0}) E
without_decision r = result_map_both (λ d. tt) (λ e. e) r

-- an answer without the decision that it hands back
abbrev pub without_return : Result (Unit {0}) Undecided → Result (Unit {0}) TrialRefusal
without_return r = result_map_both (λ u. u) (λ e. e.refusal) r

module _ {R : Type 0} {g : Ghosts R} where
  -- the making over a floorplan
  abbrev pub Makes : Floorplan → Plan R g → Type 0
  Makes made after = state_of after ≡ made_of made

  -- load
  abbrev pub Loads : Plan R g → Plan R g → List ℕ → List ℕ → Result (Unit {0}) (PlanRefusal LoadRefusal) → Type 0
  Loads before after codes sequence answer = Steps (model_load (state_of before) codes sequence) (state_of after) answer

  -- change, without its decision
  abbrev pub Opens : Plan R g → Plan R g → Change → Result (Unit {0}) (PlanRefusal ChangeRefusal) → Type 0
  Opens before after c answer = Steps (model_change (state_of before) c) (state_of after) answer

  -- change, with a decision handed out where it is done
  abbrev pub ChangesBy : Plan R g → Plan R g → Change → Result Decision (PlanRefusal ChangeRefusal) → Type 0
  ChangesBy before after c answer = Opens before after c (without_decision answer)

  -- keep, with the decision handed back where it is refused
  abbrev pub EndsKept : Plan R g → Plan R g → Result (Unit {0}) Undecided → Type 0
  EndsKept before after answer = Steps (model_keep (state_of before)) (state_of after) (without_return answer)

  -- undo, likewise
  abbrev pub EndsUndone : Plan R g → Plan R g → Result (Unit {0}) Undecided → Type 0
  EndsUndone before after answer = Steps (model_undo (state_of before)) (state_of after) (without_return answer)

  -- a question
  abbrev pub Replies : Plan R g → (q : Question) → Reply q → Type 0
  Replies now q reply = reply ≡ model_reply (state_of now) q

  -- a packing in one kind of length, which can't change a plan that it has by a shared reference: it answers and writes
  -- what the definitions give at the plan's state
  module _ {L : Type 0} (K : Kind L) (now : Plan R g) (sides : List (Sides L)) (before : List (Placed L)) where
    -- pack
    abbrev pub PacksPlan : Result (Chip L) PackRefusal → List (Placed L) → Type 0
    PacksPlan answer after = Packs K (task_at (state_of now) sides) before answer after

    -- pack with a module pinned
    abbrev pub PacksPlanPinned : Pin L → Result (Chip L) PinnedRefusal → List (Placed L) → Type 0
    PacksPlanPinned pin answer after = PacksPinned K (task_at (state_of now) sides) before pin answer after

    -- pack with a module rotated once more
    abbrev pub PacksPlanRotated : ℕ → Result (Chip L) RotationRefusal → List (Placed L) → Type 0
    PacksPlanRotated a answer after = PacksRotated K (task_at (state_of now) sides) before a answer after
