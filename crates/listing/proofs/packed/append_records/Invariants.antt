-- So far the lines of the modules that were passed.
use Rattle.lengths.specs.CountedLengths.{count_of}
use Rattle.listing.proofs.packed.append_records.Given as goal
use Rattle.listing.specs.PackLines.{record_lines}
use Rattle.plans.specs.CarriedPackings.{carry_placed}
use Rattle.std.proofs.Common.{◌≡◌, ◌++◌, map, vec_items}

abbrev pub invariant-loop-i : goal.invariant-loop-i
invariant-loop-i l = vec_items l.out ≡ vec_items l.initial.out ++ record_lines l.i (map (carry_placed count_of) l.results)
