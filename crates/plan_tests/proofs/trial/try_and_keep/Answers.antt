-- The change alone, or with what is called while it is on trial.
use Rattle.std.proofs.Common.{◌++◌, Ok, Err, refl}
use Rattle.std.proofs.lemmas.Result.{err_from_is_err_and}
use Rattle.lengths.specs.Families.{two_kinds}
use Rattle.planner.proofs.JoinedRuns.{runs_join}
use Rattle.plan_tests.specs.SampleRuns.{asked_told, blocked_told, end_told}
use Rattle.plan_tests.specs.declared.ending.Ending.TheVariants.{Keep}
use Rattle.plan_tests.proofs.trial.try_and_keep.Goals as goal

pub returns-in_err-decision : goal.returns-in_err-decision
returns-in_err-decision g c =
    let e = err_from_is_err_and c.from_residual.result c.from_residual.ensures.1 in
    rw (e.1, e.2) (c.change.new.self, (Err c.in_err-decision.field-0.0, refl, c.in_err-decision.ensures.model), refl)

pub returns : goal.returns
returns g c =
    let K = two_kinds g.L.Length.kind g.M.Length.kind in
    let w = c.args.wanted.now in
    let p = c.change.new.self in
    let q = c.block-blocked.new.plan in
    let asked = asked_told w.asked w.looked c.ask-asked.result in
    let blocked = blocked_told w.codes.now w.sequence.now w.blocked c.block-blocked.result in (
      p,
      (Ok c.in_ok-decision.decision, refl, c.in_ok-decision.ensures.model),
      (
        p,
        (c.pack_pinned-pinned.ensures.model, refl),
        (
          p,
          (c.pack_with_rotation-once_more.ensures.model, refl),
          runs_join K p asked p (blocked ++ end_told Keep) c.end.new.plan c.ask-asked.ensures
              (runs_join K p blocked q (end_told Keep) c.end.new.plan c.block-blocked.ensures.run c.end.ensures),
        ),
      ),
    )
