-- A packing with a module pinned: placed, or with no place.
use Rattle.std.proofs.Common.{◌≡◌, length, Ok, Err, subst, arith}
use Rattle.plans.proofs.PackRefusals.{not_refused_pinned}
use Rattle.plans.specs.Packing.{no_pins}
use Rattle.plans.specs.PackingCalls.{no_place}
use Rattle.plans.specs.declared.pack_refusals.PinnedRefusal.TheVariants.{NoPlace}
use Rattle.packing.proofs.Outcomes.{some_place, not_placed, ready_free, ready_pinned, pinned_done, pinned_nowhere, pinned_shows}
use Rattle.packing.specs.Steps.{ReadyToPack}
use Rattle.packing.specs.Tasks.{task_of, pin_of}
use Rattle.packing.proofs.job.Job.pack_at.Goals as goal

pub place_all-requires : goal.place_all-requires
place_all-requires g c =
    let t = task_of g.R.Representation.means c.args.self.now in
    let feasible = g.met.R.Representation.feasible c.args.self.now.representation.now in
    ready_pinned g.L.Length.kind t c.args.results.now feasible c.args.pin c.requires

pub returns-then-place_all : goal.returns-then-place_all
returns-then-place_all g c =
    let K = g.L.Length.kind in
    let t = task_of g.R.Representation.means c.args.self.now in
    let feasible = g.met.R.Representation.feasible c.args.self.now.representation.now in
    let before = c.args.results.now in
    let after = c.place_all.new.results in
    let chip = c.chip_around.result in
    let pin = c.args.pin in
    let place = some_place c.place_all.result (no_place K t (pin_of pin)) c.place_all.ensures.fits c.if-place_all.true in
    let gives =
    pinned_done K t before feasible pin c.requires place c.modules.result chip after c.modules.ensures
    c.place_all.ensures.list c.chip_around.ensures in
    (gives, pinned_shows K t before feasible pin g.met.L.Length.lawful (Ok chip) after gives)

pub place_all-requires-2 : goal.place_all-requires-2
place_all-requires-2 g c =
    let K = g.L.Length.kind in
    let t = task_of g.R.Representation.means c.args.self.now in
    let feasible = g.met.R.Representation.feasible c.args.self.now.representation.now in
    let before = c.args.results.now in
    let pin = c.args.pin in
    let none = (not_refused_pinned K t before pin.«module» pin.across pin.up c.requires).0 in
    let kept : length before ≡ length c.place_all.new.results = omega arith in
    subst (λ n. ReadyToPack K t no_pins n) kept (ready_free K t before feasible none)

pub returns : goal.returns
returns g c =
    let K = g.L.Length.kind in
    let t = task_of g.R.Representation.means c.args.self.now in
    let feasible = g.met.R.Representation.feasible c.args.self.now.representation.now in
    let before = c.args.results.now in
    let after = c.place_all-2.new.results in
    let pin = c.args.pin in
    let stuck = not_placed c.place_all.result (no_place K t (pin_of pin)) c.place_all.ensures.fits c.if-place_all.false in
    let gives =
    pinned_nowhere K t before feasible pin c.requires stuck c.place_all.new.results after c.place_all.ensures.list
    c.place_all-2.ensures.list in
    (gives, pinned_shows K t before feasible pin g.met.L.Length.lawful (Err NoPlace) after gives)
