-- What a stage of the reading promises: the first fault of its checks, or what it read.
use Rattle.std.specs.Prelude.{◌≡◌, ℕ, ◌+◌, ◌<◌, ◌≤◌, true, List, length, Some, None, Ok, Err, Result}
use Rattle.sheets.specs.declared.fault.Sheet.{Sheet}
use Rattle.sheets.specs.declared.fault.Finding.{Finding}
use Rattle.sheets.specs.Checks.{Check, first}
use Rattle.sheets.specs.Faults.{clears}
use Rattle.sheets.specs.Lines.{next_line}

-- a line of w bytes at s was passed: the next one starts behind its byte 10, in the sheet
pub record Passed (bytes : List ℕ) (s w : ℕ) : Type 0 where
  pub next : next_line bytes s ≡ s + w + 1
  pub within : s + w < length bytes

-- no check applies
pub record Passes (cs : List Check) : Type 0 where
  pub none : first cs ≡ None

-- the first fault of the checks is of this sheet, its field lies in it, and it clears the lists
pub record Fails (name : Sheet) (bytes : List ℕ) (cs : List Check) (f : Finding) : Type 0 where
  pub found : first cs ≡ Some f
  pub named : f.sheet ≡ name
  pub within : f.from + f.width ≤ length bytes
  pub clearing : clears f.wrong ≡ true

-- a stage answers the first fault of its checks, which lies in its sheet, or none applies and done holds
abbrev pub Reads : {X : Type 0} → Sheet → List ℕ → List Check → (X → Type 0) → Result X Finding → Type 0
Reads name bytes cs done (Ok x) = Passes cs × done x
Reads name bytes cs done (Err f) = Fails name bytes cs f
