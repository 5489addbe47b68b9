-- No bit of 0 is set.
use Rattle.module_set.proofs.Membership.{none_member}
use Rattle.module_set.proofs.set.ModuleSet.empty.Goals as goal

pub returns : goal.returns
returns c = none_member
