-- So far the word and the numbers that were passed.
use Rattle.listing.proofs.lines.append_line.Given as goal
use Rattle.listing.specs.Line.{columns_text}
use Rattle.std.proofs.Common.{◌≡◌, ◌++◌, take, vec_items}

abbrev pub invariant-loop-column : goal.invariant-loop-column
invariant-loop-column l = vec_items l.out ≡ vec_items l.initial.out ++ columns_text (take l.column-index l.columns)
