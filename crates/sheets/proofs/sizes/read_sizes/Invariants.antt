-- The lines passed had no fault, and their sides stand in the list.
use Rattle.std.proofs.Common.{◌≡◌, ℕ, ◌<◌}
use Rattle.sheets.specs.declared.fault.Sheet.TheVariants.{Sizes}
use Rattle.sheets.specs.AtLines.{IsLine}
use Rattle.sheets.specs.Lists.{Front, blank_sides, sides_read}
use Rattle.sheets.specs.Promises.{Passes}
use Rattle.sheets.specs.Reading.{size_checks}
use Rattle.sheets.proofs.sizes.read_sizes.Given as goal

abbrev pub invariant-loop-side : goal.invariant-loop-side
invariant-loop-side l = record {
  sheet : l.line.sheet ≡ Sizes;
  same : l.line.bytes.now ≡ l.fn.first.bytes.now;
  at : IsLine l.fn.first.bytes.now l.side-index l.line.at;
  passed : (k : ℕ) → k < l.side-index → Passes (size_checks l.fn.first.bytes.now k);
  read : Front blank_sides (sides_read l.fn.first.bytes.now) l.side-index l.sides;
}
