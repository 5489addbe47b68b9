-- The law of whole runs of a plan, where packings are in counted lengths.
use Rattle.lengths.specs.CountedLengths.{counted_lengths}
use Rattle.lengths.specs.Families.{one_kind}
use Rattle.planner.specs.RunLaw.{EveryRun}
use Rattle.planner.specs.declared.plan.Plan.{Plan}
use Rattle.plans.specs.Tables.{Floorplan}
use Rattle.representations.specs.declared.representation.Representation.{Ghosts}

-- of a plan that was made over a floorplan, whatever is called of it: counted lengths are lawful, so nothing is asked
abbrev pub CountedRuns : {R : Type 0} {g : Ghosts R} → Floorplan → Plan R g → Type 0
CountedRuns made first = EveryRun (one_kind counted_lengths) made first
