-- The law of runs, since what a representation means is feasible.
use Rattle.planner.proofs.RunLaw.{run_law}
use Rattle.planner.proofs.law.plan_law.Goals as goal

pub returns : goal.returns
returns g c = λ x first made.
    run_law g.F.Family.kind_of (g.R.Representation.means x) (g.met.R.Representation.feasible x) first made
