-- The corner is free of the modules at the places so far.
use Rattle.std.proofs.Common.{◌≡◌}
use Rattle.packing.specs.Steps.{free_corner}
use Rattle.packing.specs.Tasks.{task_of}
use Rattle.packing.proofs.job.Job.free_corner.Given as goal

abbrev pub invariant-loop-earlier : goal.invariant-loop-earlier
invariant-loop-earlier g l =
    let plan = (task_of g.R.Representation.means l.self).plan in
    l.free ≡ free_corner g.L.Length.kind plan l.results l.earlier l.i
