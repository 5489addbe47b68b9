-- The rows passed had no fault, and their codes stand in the list.
use Rattle.std.proofs.Common.{◌≡◌, ℕ, ◌+◌, ◌*◌, ◌<◌}
use Rattle.sheets.specs.declared.fault.Sheet.TheVariants.{Plan}
use Rattle.sheets.specs.AtLines.{IsLine}
use Rattle.sheets.specs.Lists.{Front}
use Rattle.sheets.specs.Promises.{Passes}
use Rattle.sheets.specs.Reading.{code_read, module_row_checks}
use Rattle.sheets.proofs.rows.read_rows.Given as goal

abbrev pub invariant-loop-i : goal.invariant-loop-i
invariant-loop-i l = record {
  sheet : l.line.sheet ≡ Plan;
  same : l.line.bytes ≡ l.fn.second.bytes;
  at : IsLine l.fn.second.bytes.now (l.i + 1) l.line.at;
  passed : (k : ℕ) → k < l.i → Passes (module_row_checks l.fn.second.bytes.now l.modules k);
  read : Front 0 (code_read l.fn.second.bytes.now l.modules) (l.i * l.modules) l.codes;
}
