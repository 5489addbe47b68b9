-- A bit of the difference is set in the first alone.
use Rattle.module_set.proofs.Membership.{minus_member}
use Rattle.module_set.proofs.set.ModuleSet.minus.Goals as goal

pub returns : goal.returns
returns c = minus_member c.args.self c.args.other
