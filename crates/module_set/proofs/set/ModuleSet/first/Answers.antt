-- The trailing zeros lead to the least member.
use Rattle.module_set.proofs.Membership.{first_member, no_member_lem}
use Rattle.module_set.proofs.set.ModuleSet.first.Goals as goal

pub returns-then-k-lt64 : goal.returns-then-k-lt64
returns-then-k-lt64 c = first_member c.args.self c.if-k-lt64.true

pub returns-else-k-lt64 : goal.returns-else-k-lt64
returns-else-k-lt64 c = no_member_lem c.args.self c.if-k-lt64.false
