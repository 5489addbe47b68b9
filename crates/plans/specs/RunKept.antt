-- What holds of every run of calls of a plan: the law that a plan is made under.
use Rattle.std.specs.Prelude.{◌≡◌, List, ◌∷◌, ◌++◌}
use Rattle.plans.specs.Accounts.{accounted}
use Rattle.plans.specs.Calls.{Packing, pack, pack_pinned, pack_with_rotation, PackingOutcome, Call, packs, Told, calls_of}
use Rattle.plans.specs.Kinds.{Kind, Lawful}
use Rattle.plans.specs.Model.{State, made_of, task_at}
use Rattle.plans.specs.ModelRuns.{after_calls, model_told}
use Rattle.plans.specs.PackingAnswers.{ShowsChip, TellsPinned}
use Rattle.plans.specs.Packing.{rotated_task}
use Rattle.plans.specs.Published.{Published}
use Rattle.plans.specs.Tables.{Floorplan, Feasible}

-- what a packing at a state answered and wrote: a chip is the least placement's; with a module pinned, "no place" is
-- answered exactly where nothing else refuses and no placement has the pin
abbrev pub PackingKept : {L : Type 0} → Kind L → State → (p : Packing L) → PackingOutcome p → Type 0
PackingKept K s (pack h) o = ShowsChip K (task_at s h.sides) h.before o
PackingKept K s (pack_pinned h a across up) o = TellsPinned K (task_at s h.sides) h.before a across up o
PackingKept K s (pack_with_rotation h a) o = ShowsChip K (rotated_task (task_at s h.sides) a) h.before o

module _ {I : Type 0} {L : I → Type 0} (K : (kind : I) → Kind (L kind)) where
  -- after calls with their answers, from a plan that was made over a floorplan to the state that it now has
  pub record RunKept (made : Floorplan) (told : List (Told L)) (now : State) : Type 0 where
    -- at each point, wherever the run is cut in two, the floorplan is one that the published definition admits: two
    -- different modules in exactly one relation, both graphs closed, no path returning to its start, the sequence along
    -- every edge
    pub published :
        (earlier later : List (Told L)) → told ≡ earlier ++ later → Published (accounted made earlier).current.plan
    -- a packing that answers a chip, of the plan that the calls before it account for, shows a placement that keeps the
    -- relations and the pin, in which no two modules overlap, and which is least among all within the limit of extent
    -- 10,000,000 that keep them with those sides and rotations; "no place" is answered exactly where no earlier refusal
    -- applies and there is none, and the list then shows the least placement without the pin
    pub packed :
        (earlier later : List (Told L)) (kind : I) (p : Packing (L kind)) (outcome : PackingOutcome p)
        → told ≡ earlier ++ (record { call = packs kind p; answer = outcome } ∷ later)
        → PackingKept (K kind) (accounted made earlier) p outcome
    -- the plan is what it was made over or the last accepted load, then the changes kept since, then the one on trial,
    -- by the answers that were given
    pub account : now ≡ accounted made told
    -- its table, sequence, rotated modules and open trial are those of the model, which is told the floorplan at the
    -- making and the calls alone
    pub state : now ≡ after_calls (made_of made) (calls_of told)
    -- and so is every answer and every result list
    pub answers : told ≡ model_told K (made_of made) (calls_of told)

  -- the model keeps it in lawful kinds, from every feasible floorplan, whatever is called
  abbrev pub ModelKeeps : Type 0
  ModelKeeps =
      ((kind : I) → Lawful (K kind)) → (made : Floorplan) → Feasible made → (calls : List (Call L))
      → RunKept made (model_told K (made_of made) calls) (after_calls (made_of made) calls)

  -- the state that calls lead to is what their account gives, from every floorplan and in every kind, lawful or not
  abbrev pub RunsAccounted : Type 0
  RunsAccounted =
      (made : Floorplan) (calls : List (Call L))
      → after_calls (made_of made) calls ≡ accounted made (model_told K (made_of made) calls)
