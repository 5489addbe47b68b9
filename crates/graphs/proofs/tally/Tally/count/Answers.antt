-- Each digit adds its weight.
use Rattle.std.proofs.Common.{arith}
use Rattle.graphs.specs.Tallies.{has_digit}
use Rattle.graphs.proofs.Tallying.{power_few, digits_few, counted_all}
use Rattle.graphs.proofs.tally.Tally.count.Goals as goal

pub overflow_add-count : goal.overflow_add-count
overflow_add-count c =
    let n = c.loop-digit.digit-index in
    let few = power_few n c.loop-digit-test.true in
    let less = digits_few n (has_digit c.args.self.now.digits c.args.k) in
    omega (arith, few, less, c.loop-digit.invariant.weight, c.loop-digit.invariant.count)

pub returns : goal.returns
returns c =
    counted_all c.args.self.now c.loop-digit.digit-index c.args.k c.loop-digit.count (omega arith) c.loop-digit.invariant.count
