-- The law of plans, of a run of two calls.
use Rattle.std.proofs.Common.{refl}
use Rattle.plan_tests.proofs.new_plan.two_calls.Goals as goal

pub returns : goal.returns
returns g c =
    let p = c.load-loaded.new.self in
    c.plan_law.ensures c.args.representation c.new-plan.result c.new-plan.ensures (λ kind. g.met.L.Length.lawful) _ p
    (p, c.load-loaded.ensures.model, (p, (c.pack-packed.ensures.model, refl), refl))
