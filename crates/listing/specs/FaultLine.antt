-- The line of a fault of the sheets.
use Rattle.std.specs.Prelude.{ℕ, List}
use Rattle.listing.specs.Line.{fail_line}
use Rattle.sheets.specs.Faults.{number_of, sheet_number}
use Rattle.sheets.specs.declared.fault.Finding.{Finding}
use Rattle.sheets.specs.declared.fault.Sheet.{Sheet}
use Rattle.sheets.specs.declared.fault.Wrong.{Wrong}

-- The line of a fault: its number, that of its sheet, line and column.
abbrev pub fault_line : Wrong → Sheet → ℕ → ℕ → List ℕ
fault_line wrong sheet line column = fail_line (number_of wrong) (sheet_number sheet) line column

-- The same by what a check tells.
abbrev pub finding_line : Finding → List ℕ
finding_line f = fault_line f.wrong f.sheet f.line f.column
