-- The job of what is current is the task of the plan's state.
use Rattle.std.proofs.Common.{subst}
use Rattle.packing.specs.Calls.{Packs, ShowsPacking, ShowsLongest}
use Rattle.plans.specs.Model.{task_at}
use Rattle.planner.specs.States.{state_of}
use Rattle.planner.proofs.plan.Plan.pack.Goals as goal

pub returns : goal.returns
returns g c =
    let K = g.L.Length.kind in
    let t = task_at (state_of c.args.self.now) c.args.sides.now in
    let before = c.args.results.now in
    let after = c.pack.new.results in
    record {
      model = subst (λ t. Packs K t before c.pack.result after) {y = t} c.job.ensures c.pack.ensures.outcome;
      least = subst (λ t. ShowsPacking K t before c.pack.result after) {y = t} c.job.ensures c.pack.ensures.least;
      longest = subst (λ t. ShowsLongest K t before c.pack.result after) {y = t} c.job.ensures c.pack.ensures.longest;
    }
