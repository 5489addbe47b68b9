-- Each place before the last has a module, whose record is read.
use Rattle.std.proofs.Common.{◌<◌, length, arith}
use Rattle.plans.specs.Directions.{code_told}
use Rattle.packing.proofs.Corners.{free_moved}
use Rattle.packing.proofs.OneModule.{module_stands, module_inside}
use Rattle.packing.specs.Tasks.{task_of}
use Rattle.packing.proofs.job.Job.free_corner.Goals as goal

pub loop-earlier-preserved : goal.loop-earlier-preserved
loop-earlier-preserved g c =
    let p = (task_of g.R.Representation.means c.args.self.now).plan in
    let feasible = g.met.R.Representation.feasible c.args.self.now.representation.now in
    let results = c.args.results.now in
    let k = c.loop-earlier.earlier in
    let j = c.unwrap-j.result in
    let within : k < p.size = omega arith in
    let inside = module_inside p feasible k j c.module_at.result within c.module_at.ensures c.unwrap-j.ensures in
    let below : j < length results = omega (arith, inside) in
    free_moved g.L.Length.kind p results k c.args.i j (code_told c.direction.result) c.index-results-j.result
    c.loop-earlier.free c.moved_past-free.result (omega (arith, feasible.fits.long)) below
    (module_stands p k j c.module_at.result c.module_at.ensures c.unwrap-j.ensures) c.direction.ensures
    c.index-results-j.is c.loop-earlier.invariant c.moved_past-free.ensures
