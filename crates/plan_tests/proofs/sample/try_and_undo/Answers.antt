-- A refused change is one call.
use Rattle.std.proofs.Common.{Err, refl}
use Rattle.std.proofs.lemmas.Result.{err_from_is_err_and}
use Rattle.plan_tests.proofs.sample.try_and_undo.Goals as goal

pub returns-in_err-decision : goal.returns-in_err-decision
returns-in_err-decision g c =
    let e = err_from_is_err_and c.from_residual.result c.from_residual.ensures.1 in
    rw (e.1, e.2) (c.change.new.self, (Err c.in_err-decision.field-0.0, refl, c.in_err-decision.ensures.model), refl)
