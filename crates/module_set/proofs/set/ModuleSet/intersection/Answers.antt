-- A bit of both words is set in each.
use Rattle.module_set.proofs.Membership.{both_member}
use Rattle.module_set.proofs.set.ModuleSet.intersection.Goals as goal

pub returns : goal.returns
returns c = both_member c.args.self c.args.other
