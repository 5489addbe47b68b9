-- What reading two sheets answers, what the representation means afterwards, and the law of the first fault.
use Rattle.std.specs.Prelude.{ℕ, ◌≢◌, ◌⊎◌, List, Some, None, Ok, Err, Option, Result}
use Rattle.std.specs.Borrow.{Bor}
use Rattle.std.specs.Option.{option_map}
use Rattle.plans.specs.FirstRefusals.{FirstRefusal}
use Rattle.plans.specs.LoadLaw.{LoadApplies}
use Rattle.plans.specs.Numbers.{number_of_load, told_by_load}
use Rattle.plans.specs.Published.{Published}
use Rattle.plans.specs.Search.{or_else}
use Rattle.plans.specs.Tables.{Floorplan}
use Rattle.plans.specs.declared.refusals.LoadRefusal.{LoadRefusal}
use Rattle.plans.specs.declared.refusals.LoadRefusal.TheVariants.{WrongShape}
use Rattle.sheets.specs.Checks.{first, NoneApplies}
use Rattle.sheets.specs.Parsing.{Held, checks_for, AnswersBy, FirstOf, Tells}
use Rattle.sheets.specs.Reading.{modules_of}
use Rattle.sheets.specs.declared.fault.Fault.{Fault}
use Rattle.sheets.specs.declared.fault.Finding.{Finding}
use Rattle.sheets.specs.declared.parsed.Parsed.{Parsed}
use Rattle.reading.specs.PlanFaults.{plan_finding}
use Rattle.reading.specs.Written.{codes_written, sequence_written, refusal_written, floorplan_written}

-- the fault of the load of what a well-written plan sheet says, if it is refused
abbrev pub load_fault : List ℕ → Option Finding
load_fault plan = option_map (plan_finding plan (modules_of plan)) (refusal_written plan)

-- the first fault of the lists and the two sheets, or else that of the load
abbrev pub first_fault : List ℕ → List ℕ → Held → Option Finding
first_fault sizes plan h = or_else (first (checks_for sizes plan h)) (load_fault plan)

-- the answer: that fault, or what parsing answers
abbrev pub Answered : Bor (List ℕ) → Bor (List ℕ) → Held → Result Parsed Fault → Type 0
Answered sizes plan h r = AnswersBy sizes plan (first_fault sizes.now plan.now h) r

-- what the representation means: after any fault what it meant before, and else what the plan sheet says
abbrev pub means_after : List ℕ → Option Finding → Floorplan → Floorplan
means_after plan (Some f) before = before
means_after plan None before = floorplan_written plan

-- a fault that tells the first refusal of the load: it applies, and none before it; the shape is never at fault
pub record FirstRefused (plan : Bor (List ℕ)) (e : Fault) : Type 0 where
  pub refusal : LoadRefusal
  pub stands : FirstRefusal number_of_load told_by_load (LoadApplies (codes_written plan.now) (sequence_written plan.now)) (Some refusal)
  pub shaped : refusal ≢ WrongShape
  pub told : Tells plan (plan_finding plan.now (modules_of plan.now) refusal) e

-- the law of the first: after a done reading no check applies, and the published definition admits what was read;
-- a fault is the first of the lists and sheets, or none of those applies and it tells the load's first refusal
abbrev pub FirstRead : Bor (List ℕ) → Bor (List ℕ) → Held → Result Parsed Fault → Type 0
FirstRead sizes plan h (Ok p) = NoneApplies (checks_for sizes.now plan.now h) × Published (floorplan_written plan.now)
FirstRead sizes plan h (Err e) = FirstOf sizes plan h (Err e) ⊎ (NoneApplies (checks_for sizes.now plan.now h) × FirstRefused plan e)
