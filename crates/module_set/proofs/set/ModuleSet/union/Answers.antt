-- A bit of the union is set in either.
use Rattle.module_set.proofs.Membership.{union_member}
use Rattle.module_set.proofs.set.ModuleSet.union.Goals as goal

pub returns : goal.returns
returns c = union_member c.args.self c.args.other
