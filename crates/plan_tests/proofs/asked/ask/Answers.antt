-- A question leaves the plan.
use Rattle.std.proofs.Common.{refl}
use Rattle.plan_tests.proofs.asked.ask.Goals as goal

pub returns : goal.returns
returns g c =
    let p = c.args.plan.now in
    (p, (c.code.ensures, refl), (p, (c.is_rotated.ensures, refl), (p, (c.is_on_trial.ensures, refl), refl)))
