-- The law of a plan over whole runs of its calls.
use Rattle.std.specs.Prelude.{List}
use Rattle.plans.specs.Calls.{Told}
use Rattle.plans.specs.Kinds.{Kind, Lawful}
use Rattle.plans.specs.RunKept.{RunKept}
use Rattle.plans.specs.Tables.{Floorplan}
use Rattle.planner.specs.Calls.{Makes}
use Rattle.planner.specs.PlanRuns.{Run}
use Rattle.planner.specs.States.{state_of}
use Rattle.planner.specs.declared.plan.Plan.{Plan}
use Rattle.representations.specs.declared.representation.Representation.{Ghosts}

module _ {I : Type 0} {L : I → Type 0} (K : (kind : I) → Kind (L kind)) {R : Type 0} {g : Ghosts R} where
  -- of a plan that was made over a floorplan: whatever is called of it from then on, in any number and order, accepted or
  -- refused, with packings in any of the kinds, what holds of runs is kept
  abbrev pub EveryRun : Floorplan → Plan R g → Type 0
  EveryRun made first = (told : List (Told L)) (now : Plan R g) → Run K first told now → RunKept K made told (state_of now)

  -- the law of a plan: so it is if the kinds are lawful
  abbrev pub RunLaw : Floorplan → Plan R g → Type 0
  RunLaw made first = ((kind : I) → Lawful (K kind)) → EveryRun made first

-- the law of every plan that is as a making leaves it, over any representation
abbrev pub PlanLaw : {I : Type 0} {L : I → Type 0} (K : (kind : I) → Kind (L kind)) {R : Type 0} (g : Ghosts R) → Type 0
PlanLaw K {R} g = (x : R) (first : Plan R g) → Makes (g.means x) first → RunLaw K (g.means x) first
