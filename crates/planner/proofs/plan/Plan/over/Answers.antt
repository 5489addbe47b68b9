-- The law of runs, since what a representation means is feasible.
use Rattle.std.proofs.Common.{rules}
use Rattle.planner.proofs.RunLaw.{run_law}
use Rattle.planner.proofs.plan.Plan.over.Goals as goal

pub returns-clause-law : goal.returns-clause-law
returns-clause-law g c =
    let x = c.args.representation in
    run_law g.F.Family.kind_of (g.R.Representation.means x) (g.met.R.Representation.feasible x) _ (search rules)
