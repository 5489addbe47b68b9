-- The job of what is current is the task of the plan's state.
use Rattle.std.proofs.Common.{subst}
use Rattle.packing.specs.Calls.{PacksRotated, ShowsPacking, ShowsLongest}
use Rattle.plans.specs.Model.{task_at}
use Rattle.plans.specs.Packing.{rotated_task}
use Rattle.planner.specs.States.{state_of}
use Rattle.planner.proofs.plan.Plan.pack_with_rotation.Goals as goal

pub returns : goal.returns
returns g c =
    let K = g.L.Length.kind in
    let t = task_at (state_of c.args.self.now) c.args.sides.now in
    let a = c.args.«module» in
    let before = c.args.results.now in
    let r = c.pack_with_rotation.result in
    let after = c.pack_with_rotation.new.results in
    let given = c.pack_with_rotation.ensures in
    record {
      model = subst (λ t. PacksRotated K t before a r after) {y = t} c.job.ensures given.outcome;
      least = subst (λ t. ShowsPacking K (rotated_task t a) before r after) {y = t} c.job.ensures given.least;
      longest = subst (λ t. ShowsLongest K (rotated_task t a) before r after) {y = t} c.job.ensures given.longest;
    }
