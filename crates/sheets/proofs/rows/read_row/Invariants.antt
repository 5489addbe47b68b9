-- The letters passed are known, and their codes stand in the list.
use Rattle.std.proofs.Common.{ℕ, ◌+◌, ◌<◌}
use Rattle.sheets.specs.Lists.{Front}
use Rattle.sheets.specs.Promises.{Passes}
use Rattle.sheets.specs.Reading.{code_at, letter_checks}
use Rattle.sheets.proofs.rows.read_row.Given as goal

abbrev pub invariant-loop-j : goal.invariant-loop-j
invariant-loop-j l = record {
  passed : (k : ℕ) → k < l.j → Passes (letter_checks l.line.bytes.now l.line.at.line l.line.at.offset k);
  read : Front 0 (λ k. code_at l.line.bytes.now (l.line.at.offset + k)) l.j l.codes;
}
