-- One module more is placed with each turn, and at the end all are.
use Rattle.std.proofs.Common.{◌≡◌, ◌<◌, not, refl, ap, ◌∙◌, arith}
use Rattle.plans.specs.Search.{some_below}
use Rattle.packing.proofs.Filling.{reached_more, reached_all, pushed_along, none_more}
use Rattle.packing.specs.Steps.{at_place, pushed_at}
use Rattle.packing.specs.Tasks.{task_of, pins_of}
use Rattle.packing.proofs.job.Job.place_all.Goals as goal

pub loop-place-preserved : goal.loop-place-preserved
loop-place-preserved g c =
    let K = g.L.Length.kind in
    let t = task_of g.R.Representation.means c.args.self.now in
    let pins = pins_of c.args.pin in
    let k = c.loop-place.place in
    let less : k < t.plan.size = omega (arith, c.modules-place-end.ensures, c.loop-place-test.true) in (
      rw c.place_module-fits.ensures.list
          (reached_more K t pins _ c.requires k c.args.results.now c.loop-place.results less refl c.loop-place.invariant.0),
      none_more k (λ l. pushed_at K t pins (at_place t.plan l)) c.loop-place.fits c.place_module-fits.result
          c.loop-place.invariant.1 c.place_module-fits.ensures.fits,
    )

pub returns : goal.returns
returns g c =
    let K = g.L.Length.kind in
    let law = g.met.L.Length.lawful in
    let t = task_of g.R.Representation.means c.args.self.now in
    let pins = pins_of c.args.pin in
    let all : c.loop-place.place ≡ t.plan.size =
    omega (arith, c.modules-place-end.ensures, c.loop-place-test.false, c.loop-place.auto.place-end) in
    record {
      list =
          reached_all K t pins _ c.requires law c.loop-place.place c.args.results.now c.loop-place.results all refl
          c.loop-place.invariant.0;
      fits =
          c.loop-place.invariant.1
          ∙ ap (λ n. not (some_below n (λ l. pushed_at K t pins (at_place t.plan l)))) all
          ∙ ap not (pushed_along K t pins _ c.requires law);
    }
