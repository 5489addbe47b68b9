-- What the answer of parsing says of the whole, and which sheet a refused load is told of.
use Rattle.std.proofs.Common.{◌≡◌, ℕ, List, Some, None, Ok, Err, Option, refl, Bor}
use Rattle.plans.specs.Search.{or_else}
use Rattle.plans.specs.Tables.{Floorplan}
use Rattle.plans.specs.declared.refusals.LoadRefusal.{LoadRefusal}
use Rattle.plans.specs.declared.refusals.LoadRefusal.TheVariants.{WrongShape, WrongCode, SelfRelated, NotOneEdge, NotClosed, WrongPlace, Backwards}
use Rattle.sheets.specs.Parsing.{AnswersBy}
use Rattle.sheets.specs.declared.fault.Fault.{Fault}
use Rattle.sheets.specs.declared.fault.Finding.{Finding}
use Rattle.sheets.specs.declared.fault.Sheet.TheVariants.{Plan}
use Rattle.sheets.specs.declared.parsed.Parsed.{Parsed}
use Rattle.reading.specs.Outcome.{means_after}
use Rattle.reading.specs.PlanFaults.{plan_finding}

-- a done parsing had no fault
pub parsed_none : (sizes plan : Bor (List ℕ)) (o : Option Finding) (p : Parsed) → AnswersBy sizes plan o (Ok p) → o ≡ None
parsed_none sizes plan None p a = refl
parsed_none sizes plan (Some f) p a = absurd a

-- a fault of parsing is the fault of the whole
pub parse_fault :
    (sizes plan : Bor (List ℕ)) (o later : Option Finding) (e : Fault) → AnswersBy sizes plan o (Err e)
    → AnswersBy sizes plan (or_else o later) (Err e)
parse_fault sizes plan None later e a = absurd a
parse_fault sizes plan (Some f) later e a = a

-- and what is meant stays
pub parse_fault_keeps :
    (sizes plan : Bor (List ℕ)) (o later : Option Finding) (e : Fault) (old : Floorplan)
    → AnswersBy sizes plan o (Err e) → old ≡ means_after plan.now (or_else o later) old
parse_fault_keeps sizes plan None later e old a = absurd a
parse_fault_keeps sizes plan (Some f) later e old a = refl

-- a refused load is a fault of the plan sheet
pub of_plan : (plan : List ℕ) (m : ℕ) (e : LoadRefusal) → (plan_finding plan m e).sheet ≡ Plan
of_plan plan m WrongShape = refl
of_plan plan m (WrongCode i j) = refl
of_plan plan m (SelfRelated i j) = refl
of_plan plan m (NotOneEdge i j) = refl
of_plan plan m (NotClosed i j) = refl
of_plan plan m (WrongPlace k) = refl
of_plan plan m (Backwards i j) = refl
