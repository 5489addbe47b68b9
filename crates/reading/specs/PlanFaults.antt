-- Faults of the plan layer: a refused load, told at the letter or the field of the sequence that it names.
use Rattle.std.specs.Prelude.{ℕ, ◌+◌, ◌*◌, List}
use Rattle.plans.specs.declared.refusals.LoadRefusal.{LoadRefusal}
use Rattle.plans.specs.declared.refusals.LoadRefusal.TheVariants.{WrongShape, WrongCode, SelfRelated, NotOneEdge, NotClosed, WrongPlace, Backwards}
use Rattle.sheets.specs.Checks.{whole_finding, field_finding}
use Rattle.sheets.specs.Lines.{line_start}
use Rattle.sheets.specs.declared.fault.Finding.{Finding}
use Rattle.sheets.specs.declared.fault.Sheet.TheVariants.{Plan}
use Rattle.sheets.specs.declared.fault.Wrong.TheVariants.{Refused}

-- at letter j of row i: the head is line 1, so row i is line i + 2; the field is that one letter
abbrev pub letter_finding : List ℕ → LoadRefusal → ℕ → ℕ → Finding
letter_finding plan e i j = field_finding (Refused e) Plan (i + 2) (line_start plan (i + 1)) j 1

-- at field k of the sequence, the line behind m rows: the field is its four bytes
abbrev pub place_finding : List ℕ → ℕ → LoadRefusal → ℕ → Finding
place_finding plan m e k = field_finding (Refused e) Plan (m + 2) (line_start plan (m + 1)) (4 * k) 4

-- what a refused load of m modules tells of the plan sheet: the letter of a pair, the field of a place; a wrong
-- shape, which no well-written sheet has, would be told at line and column 0 with the sheet's empty start
abbrev pub plan_finding : List ℕ → ℕ → LoadRefusal → Finding
plan_finding plan m WrongShape = whole_finding (Refused WrongShape) Plan
plan_finding plan m (WrongCode i j) = letter_finding plan (WrongCode i j) i j
plan_finding plan m (SelfRelated i j) = letter_finding plan (SelfRelated i j) i j
plan_finding plan m (NotOneEdge i j) = letter_finding plan (NotOneEdge i j) i j
plan_finding plan m (NotClosed i j) = letter_finding plan (NotClosed i j) i j
plan_finding plan m (WrongPlace k) = place_finding plan m (WrongPlace k) k
plan_finding plan m (Backwards i j) = letter_finding plan (Backwards i j) i j
