-- What the script prints, line by line from a place of the plan sheet.
use Rattle.std.specs.Prelude.{ℕ, zero, suc, cond, List, [], ◌++◌, Some, None, Option}
use Rattle.listing.specs.CommandLines.{command_lines, state_after}
use Rattle.listing.specs.FaultLine.{finding_line}
use Rattle.plans.specs.Kinds.{Count}
use Rattle.plans.specs.Model.{State}
use Rattle.plans.specs.declared.measures.Sides.{Sides}
use Rattle.sheets.specs.Checks.{first}
use Rattle.sheets.specs.Lines.{goes_on}
use Rattle.sheets.specs.Script.{script_checks, line_read}
use Rattle.sheets.specs.declared.fault.Finding.{Finding}
use Rattle.sheets.specs.declared.place.Place.{Place}

-- A fault prints its line and stops; without one, what follows is printed.
abbrev pub fault_or : Option Finding → List ℕ → List ℕ
fault_or (Some f) others = finding_line f
fault_or None others = others

-- What at most so many script lines print, from a place on, at a state: each its command's lines, up to the end of the
-- sheet or the first fault. A trial that is open at the end prints nothing.
abbrev pub lines_from : List ℕ → List (Sides Count) → ℕ → Place → State → List ℕ
lines_from plan sides zero at s = []
lines_from plan sides (suc n) at s =
    cond (goes_on plan at.offset)
    (fault_or (first (script_checks plan at.line at.offset))
    (command_lines sides s (line_read plan at).command
    ++ lines_from plan sides n (line_read plan at).next (state_after s (line_read plan at).command)))
    []
