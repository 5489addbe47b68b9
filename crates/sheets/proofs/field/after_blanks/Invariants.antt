-- Only blanks were passed.
use Rattle.std.proofs.Common.{◌≡◌, ◌≤◌, length}
use Rattle.sheets.specs.Fields.{after_blanks}
use Rattle.sheets.proofs.field.after_blanks.Given as goal

abbrev pub invariant-loop-rest : goal.invariant-loop-rest
invariant-loop-rest l = record { same : after_blanks l.rest ≡ after_blanks l.field; within : length l.rest ≤ length l.field }

abbrev pub decreases-loop-rest : goal.decreases-loop-rest
decreases-loop-rest l = length l.rest
