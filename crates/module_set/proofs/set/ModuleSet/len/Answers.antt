-- The bits that are set are the members.
use Rattle.std.proofs.Common.{arith}
use Rattle.module_set.proofs.Membership.{count_members}
use Rattle.module_set.proofs.set.ModuleSet.len.Goals as goal

pub returns : goal.returns
returns c = count_members c.args.self (omega arith)
