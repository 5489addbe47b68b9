-- A refusal before the packing is none of "no place", and tells so.
use Rattle.std.proofs.Common.{rules}
use Rattle.packing.proofs.Outcomes.{pinned_shows}
use Rattle.packing.specs.Calls.{PacksPinned}
use Rattle.packing.specs.Tasks.{task_of}
use Rattle.packing.proofs.job.Job.pack_pinned.Goals as goal

pub returns-in_err-check_pin-clause-least : goal.returns-in_err-check_pin-clause-least
returns-in_err-check_pin-clause-least g c =
    let K = g.L.Length.kind in
    let t = task_of g.R.Representation.means c.args.self.now in
    let feasible = g.met.R.Representation.feasible c.args.self.now.representation.now in
    let before = c.args.results.now in
    let answer = c.from_residual.result in
    let gives : PacksPinned K t before c.args.pin answer before = search rules in
    pinned_shows K t before feasible c.args.pin g.met.L.Length.lawful answer before gives
