-- What the difference lacks, the other set has.
use Rattle.std.proofs.Common.{◌∙◌}
use Rattle.module_set.proofs.Membership.{no_difference}
use Rattle.module_set.proofs.set.ModuleSet.is_subset.Goals as goal

pub returns : goal.returns
returns c =
    c.is_empty.ensures ∙ no_difference c.args.self c.args.other c.minus.result c.minus.ensures
