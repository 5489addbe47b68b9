-- The laws of the first refusals, by their proofs.
use Rattle.plans.proofs.ChangeFirst.{change_first}
use Rattle.plans.proofs.PackFirst.{pack_first}
use Rattle.plans.proofs.PlanRefusals.{plan_refusals}
use Rattle.plans.proofs.theorems.first_refusals.Goals as goal

pub returns : goal.returns
returns g c = record { change = change_first; packing = pack_first _; plan = plan_refusals }
