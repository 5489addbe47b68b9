-- The model's state, read off a plan.
use Rattle.plans.specs.Model.{State}
use Rattle.planner.specs.Layouts.{state_in}
use Rattle.planner.specs.declared.plan.Plan.{Plan}
use Rattle.representations.specs.declared.representation.Representation.{Ghosts}

-- the state of a plan: what is current, by what its representation means, and what its trial noted
abbrev pub state_of : {R : Type 0} {g : Ghosts R} → Plan R g → State
state_of {g = g} p = state_in g.means p.current p.trial
