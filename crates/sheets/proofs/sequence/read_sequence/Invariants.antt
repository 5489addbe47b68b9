-- The fields passed had no fault, and their numbers stand in the list.
use Rattle.std.proofs.Common.{ℕ, ◌+◌, ◌*◌, ◌<◌}
use Rattle.sheets.specs.Lists.{Front}
use Rattle.sheets.specs.Promises.{Passes}
use Rattle.sheets.specs.Reading.{number_at, place_checks}
use Rattle.sheets.proofs.sequence.read_sequence.Given as goal

abbrev pub invariant-loop-j : goal.invariant-loop-j
invariant-loop-j l = record {
  passed : (k : ℕ) → k < l.j → Passes (place_checks l.line.bytes.now l.line.at.line l.line.at.offset k);
  read : Front 0 (λ k. number_at l.line.bytes.now (l.line.at.offset + 4 * k) 4) l.j l.places;
}
