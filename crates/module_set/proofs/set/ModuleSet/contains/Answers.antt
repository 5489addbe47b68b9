-- A bit that is set is a member's.
use Rattle.std.proofs.Common.{sym, ◌∙◌}
use Rattle.std.proofs.lemmas.Bool.{le-ltb}
use Rattle.module_set.proofs.Membership.{low_member, member_outside}
use Rattle.module_set.proofs.set.ModuleSet.contains.Goals as goal

pub returns-then-i-lt64 : goal.returns-then-i-lt64
returns-then-i-lt64 c = low_member c.args.self c.args.i c.if-i-lt64.true

pub returns-else-i-lt64 : goal.returns-else-i-lt64
returns-else-i-lt64 c =
    le-ltb c.args.i 64 c.if-i-lt64.false ∙ sym (member_outside c.args.self c.args.i c.if-i-lt64.false)
