-- The load and the change, one after the other.
use Rattle.std.proofs.Common.{refl, sym, ap}
use Rattle.planner.specs.Calls.{without_decision}
use Rattle.plan_tests.proofs.trial.block.Goals as goal

pub returns-clause-run : goal.returns-clause-run
returns-clause-run g c = (
  c.load-load.new.self,
  c.load-load.ensures.model,
  (
    c.change-changed.new.self,
    (c.change-changed.result, sym (ap without_decision c.refusal_of.ensures), c.change-changed.ensures.model),
    refl,
  ),
)
