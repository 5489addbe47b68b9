-- Where each module stands is its place.
use Rattle.std.proofs.Common.{arith}
use Rattle.sequence_pairs.specs.Kept.{module_at_lem}
use Rattle.sequence_pairs.proofs.order.Order.of_modules.Goals as goal

pub invariant_of-result-clause-kept : goal.invariant_of-result-clause-kept
invariant_of-result-clause-kept c =
    let few = c.requires.few in
    module_at_lem c.args.count c.inverse.result c.args.modules (omega arith) c.inverse.ensures
