-- What one command of the script prints, and what it makes of the plan's state.
use Rattle.std.specs.Prelude.{ℕ, List, Ok, Err, codes, Result}
use Rattle.listing.specs.Line.{word_line}
use Rattle.listing.specs.PackLines.{pack_lines}
use Rattle.plans.specs.Kinds.{Count}
use Rattle.plans.specs.Model.{State, model_change, model_keep, model_undo}
use Rattle.plans.specs.Numbers.{number_of_change, number_of_plan, number_of_trial}
use Rattle.plans.specs.declared.change.Change.{Change}
use Rattle.plans.specs.declared.change.Change.TheVariants.{Rotate, Swap, Reverse, MoveEdge}
use Rattle.plans.specs.declared.measures.Sides.{Sides}
use Rattle.sheets.specs.declared.command.Command.{Command}
use Rattle.sheets.specs.declared.command.Command.TheVariants as commands

-- 0, or the number of a refusal.
abbrev pub answer_number : {T E : Type 0} → (E → ℕ) → Result T E → ℕ
answer_number number (Ok x) = 0
answer_number number (Err e) = number e

-- The word of a change.
abbrev pub change_word : Change → List ℕ
change_word (Rotate a) = codes "TURN"
change_word (Swap a b) = codes "SWAP"
change_word (Reverse a b) = codes "FLIP"
change_word (MoveEdge a b) = codes "MOVE"

-- What a command prints at a state, for modules of these sides.
abbrev pub command_lines : List (Sides Count) → State → Command → List ℕ
command_lines sides s (commands.Change c) =
    word_line (change_word c) (answer_number (number_of_plan number_of_change) (model_change s c).answer)
command_lines sides s commands.Keep = word_line (codes "KEEP") (answer_number number_of_trial (model_keep s).answer)
command_lines sides s commands.Undo = word_line (codes "UNDO") (answer_number number_of_trial (model_undo s).answer)
command_lines sides s commands.Pack = pack_lines s sides

-- The state after it; a packing leaves the state.
abbrev pub state_after : State → Command → State
state_after s (commands.Change c) = (model_change s c).state
state_after s commands.Keep = (model_keep s).state
state_after s commands.Undo = (model_undo s).state
state_after s commands.Pack = s
