-- What is written so far, and then what the rest prints at the plan's state, is what the whole prints.
use Rattle.std.proofs.Common.{◌≡◌, ℕ, ◌+◌, ◌-◌, ◌≤◌, ◌++◌, length, vec_items}
use Rattle.listing.proofs.script.run_script.Given as goal
use Rattle.listing.specs.Bordered.{in_counts}
use Rattle.listing.specs.ScriptLines.{lines_from}
use Rattle.planner.specs.States.{state_of}

abbrev pub invariant-loop-line : goal.invariant-loop-line
invariant-loop-line g l =
    (n : ℕ)
    × (length l.sheet ≤ l.at.offset + n)
    × (vec_items l.out ++ lines_from l.sheet (in_counts l.sides) n l.at (state_of l.scripted.plan)
    ≡ vec_items l.initial.out
    ++ lines_from l.sheet (in_counts l.sides) (length l.sheet) l.initial.at (state_of l.initial.scripted.plan))

abbrev pub decreases-loop-line : goal.decreases-loop-line
decreases-loop-line g l = length l.sheet - l.at.offset
