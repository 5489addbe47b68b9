-- A packing with no pin.
use Rattle.std.proofs.Common.{Ok}
use Rattle.packing.proofs.Outcomes.{ready_free, pack_done, pack_shows, pack_shows_paths}
use Rattle.packing.specs.Tasks.{task_of}
use Rattle.packing.proofs.job.Job.pack_freely.Goals as goal

pub place_all-requires : goal.place_all-requires
place_all-requires g c =
    let t = task_of g.R.Representation.means c.args.self.now in
    ready_free g.L.Length.kind t c.args.results.now (g.met.R.Representation.feasible c.args.self.now.representation.now)
    c.requires

pub returns : goal.returns
returns g c =
    let K = g.L.Length.kind in
    let t = task_of g.R.Representation.means c.args.self.now in
    let feasible = g.met.R.Representation.feasible c.args.self.now.representation.now in
    let before = c.args.results.now in
    let after = c.place_all.new.results in
    let chip = c.chip_around.result in
    let gives =
    pack_done K t before feasible c.requires c.modules.result chip after c.modules.ensures
    c.place_all.ensures.list c.chip_around.ensures in
    record {
      outcome = gives;
      least = pack_shows K t before feasible g.met.L.Length.lawful (Ok chip) after gives;
      longest = pack_shows_paths K t before feasible g.met.L.Length.lawful (Ok chip) after gives;
    }
