-- A script is run to its end.
use Rattle.std.specs.Prelude.{◌≡◌, ℕ, ◌≤◌, List, length}
use Rattle.listing.specs.ScriptLines.{lines_from}
use Rattle.plans.specs.Kinds.{Count}
use Rattle.plans.specs.Model.{State}
use Rattle.plans.specs.declared.measures.Sides.{Sides}
use Rattle.sheets.specs.declared.place.Place.{Place}

-- as many lines as the sheet has bytes are enough: however many more are allowed, no more is printed
abbrev pub RunsToItsEnd : Type 0
RunsToItsEnd =
    (plan : List ℕ) (sides : List (Sides Count)) (n : ℕ) (at : Place) (s : State) → length plan ≤ n
    → lines_from plan sides n at s ≡ lines_from plan sides (length plan) at s
