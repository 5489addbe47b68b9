-- A packing with one module rotated once more is one of the set with it in or out.
use Rattle.std.proofs.Common.{◌<◌, arith}
use Rattle.module_set.specs.Members.{member}
use Rattle.plans.proofs.PackRefusals.{not_refused_rotated}
use Rattle.packing.proofs.Outcomes.{toggled_task, rotated_packed}
use Rattle.packing.specs.Tasks.{task_of}
use Rattle.packing.proofs.job.Job.pack_once_more.Goals as goal

pub pack_freely-requires : goal.pack_freely-requires
pack_freely-requires g c =
    let t = task_of g.R.Representation.means c.args.self.now in
    (not_refused_rotated g.L.Length.kind t c.args.results.now c.args.«module» c.requires).0

pub returns : goal.returns
returns g c =
    let K = g.L.Length.kind in
    let t = task_of g.R.Representation.means c.args.self.now in
    let feasible = g.met.R.Representation.feasible c.args.self.now.representation.now in
    let a = c.args.«module» in
    let allowed = not_refused_rotated K t c.args.results.now a c.requires in
    let few : a < 64 = omega (arith, allowed.1, feasible.table.few) in
    let once = member c.toggled.result in
    rotated_packed K t c.args.results.now feasible a g.met.L.Length.lawful c.requires
    (record { plan = t.plan; rotated = once; sides = t.sides }) c.pack_freely.result c.pack_freely.new.results
    (toggled_task t.plan t.sides t.rotated once a few c.toggled.ensures) c.pack_freely.ensures
