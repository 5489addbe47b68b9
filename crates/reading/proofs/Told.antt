-- The part of the plan sheet that a refusal tells lies in the sheet.
use Rattle.std.proofs.Common.{◌≡◌, ℕ, ◌+◌, ◌*◌, ◌<◌, ◌≤◌, List, length, sym, subst, arith, Bor}
use Rattle.plans.specs.declared.refusals.LoadRefusal.{LoadRefusal}
use Rattle.plans.specs.declared.refusals.LoadRefusal.TheVariants.{WrongShape, WrongCode, SelfRelated, NotOneEdge, NotClosed, WrongPlace, Backwards}
use Rattle.reading.specs.PlanFaults.{plan_finding}
use Rattle.reading.specs.Rows.{ToldInPlan, WellPlaced, row_start}
use Rattle.sheets.specs.Lines.{line_start}
use Rattle.sheets.specs.Parsing.{Tells}
use Rattle.sheets.specs.declared.fault.Fault.{Fault}
use Rattle.sheets.specs.declared.fault.Finding.{Finding}

module _ (plan : List ℕ) (m : ℕ) (placed : WellPlaced plan m) where
  letter_there : (i j : ℕ) → i < m → j < m → line_start plan (i + 1) + j + 1 ≤ length plan
  letter_there i j hi hj =
      let start : line_start plan (i + 1) ≡ row_start m i = placed.starts i (omega arith) in
      let end : row_start m i + m < length plan = placed.letters i hi in
      omega arith

  place_there : (k : ℕ) → k < m → line_start plan (m + 1) + 4 * k + 4 ≤ length plan
  place_there k h =
      let start : line_start plan (m + 1) ≡ row_start m m = placed.starts m (omega arith) in
      let end : row_start m m + 4 * m < length plan = placed.fields in
      omega arith

  lies : (e : LoadRefusal) → ToldInPlan m e → (plan_finding plan m e).from + (plan_finding plan m e).width ≤ length plan
  lies WrongShape h = omega arith
  lies (WrongCode i j) h = letter_there i j h.0 h.1
  lies (SelfRelated i j) h = letter_there i j h.0 h.1
  lies (NotOneEdge i j) h = letter_there i j h.0 h.1
  lies (NotClosed i j) h = letter_there i j h.0 h.1
  lies (WrongPlace k) h = place_there k h
  lies (Backwards i j) h = letter_there i j h.0 h.1

-- so a finding that is the refusal's is told with its field
pub told_there :
    (plan : Bor (List ℕ)) (m : ℕ) (e : LoadRefusal) → WellPlaced plan.now m → ToldInPlan m e
    → (f : Finding) (r : Fault) → f ≡ plan_finding plan.now m e
    → (f.from + f.width ≤ length plan.now → Tells plan f r) → Tells plan (plan_finding plan.now m e) r
told_there plan m e placed inside f r same tells =
    subst (λ g. Tells plan g r) same (tells (subst (λ g. g.from + g.width ≤ length plan.now) (sym same) (lies plan.now m placed e inside)))
