-- The checks of the two sheets from each part on.
use Rattle.std.proofs.Common.{ℕ, List, ◌++◌}
use Rattle.sheets.specs.Checks.{Check}
use Rattle.sheets.specs.Reading.{modules_of, sizes_checks, rows_checks, last_checks, head_checks}

abbrev pub rows_on : List ℕ → List Check
rows_on plan = rows_checks plan (modules_of plan) ++ last_checks plan (modules_of plan)

abbrev pub sizes_on : List ℕ → List ℕ → List Check
sizes_on sizes plan = sizes_checks sizes (modules_of plan) ++ rows_on plan

abbrev pub head_on : List ℕ → List ℕ → List Check
head_on sizes plan = head_checks plan ++ sizes_on sizes plan
