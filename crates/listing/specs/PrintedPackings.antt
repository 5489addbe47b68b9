-- What the packings of a script are: of feasible floorplans, least, and in the lengths of the plain packing.
use Rattle.listing.specs.CommandLines.{state_after}
use Rattle.listing.specs.PackLines.{packing_at}
use Rattle.plans.specs.CarriedPackings.{carry_task, carry_placed, carry_outcome}
use Rattle.plans.specs.Kinds.{Count, plain_kind, counted_kind}
use Rattle.plans.specs.Model.{State, task_at}
use Rattle.plans.specs.ModelLaw.{FeasibleState}
use Rattle.plans.specs.Packing.{no_pins, at_origin}
use Rattle.plans.specs.PackingAnswers.{ShowsLeast}
use Rattle.plans.specs.PackingCalls.{after_pack}
use Rattle.plans.specs.declared.measures.Chip.{Chip}
use Rattle.plans.specs.declared.measures.Sides.{Sides}
use Rattle.sheets.specs.declared.command.Command.{Command}
use Rattle.std.specs.Prelude.{◌≡◌, List, replicate, Ok}

-- what a script packs and prints
pub record PrintedPackings : Type 0 where
  -- a command leads from a feasible state to a feasible one
  pub feasible : (s : State) (c : Command) → FeasibleState s → FeasibleState (state_after s c)
  -- a chip that PACK prints, with the records it prints, is that of the least placement at the state
  pub least :
      (s : State) (sides : List (Sides Count)) (chip : Chip Count) → FeasibleState s
      → (packing_at s sides).answer ≡ Ok chip
      → ShowsLeast counted_kind (task_at s sides) no_pins (replicate 64 (at_origin counted_kind)) (packing_at s sides).results chip
  -- its lengths are those of the packing in plain lengths, whatever the borders
  pub plain :
      (s : State) (sides : List (Sides Count))
      → carry_outcome (λ a. a.long) (packing_at s sides)
      ≡ after_pack plain_kind (carry_task (λ a. a.long) (task_at s sides)) (replicate 64 (carry_placed (λ a. a.long) (at_origin counted_kind)))
