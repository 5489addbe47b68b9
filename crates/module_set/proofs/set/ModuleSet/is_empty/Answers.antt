-- No least member is no member.
use Rattle.module_set.proofs.Membership.{none_found}
use Rattle.module_set.proofs.set.ModuleSet.is_empty.Goals as goal

pub returns : goal.returns
returns c = none_found c.args.self c.first.result c.is_none.result c.first.ensures c.is_none.ensures
