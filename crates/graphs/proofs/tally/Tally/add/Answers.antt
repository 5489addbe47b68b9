-- One digit more takes in what is carried to it.
use Rattle.std.proofs.Common.{not, ◌&&◌, ap, ◌∙◌, arith}
use Rattle.module_set.specs.Members.{member}
use Rattle.graphs.proofs.Tallying.{carrying_more, carrying_all}
use Rattle.graphs.proofs.tally.Tally.add.Goals as goal

pub loop-digit-preserved : goal.loop-digit-preserved
loop-digit-preserved c =
    let n = c.loop-digit.digit-index in
    carrying_more n c.args.self.now.digits c.loop-digit.digit-items c.args.set c.loop-digit.carry c.intersection-both.result c.minus.result
    c.loop-digit.invariant c.loop-digit-test.true c.intersection-both.ensures
    (λ k. c.minus.ensures k ∙ ap (λ b. b && not (member c.intersection-both.result k)) (c.union.ensures k))

pub returns : goal.returns
returns c =
    carrying_all c.args.self.now _ c.loop-digit.digit-index c.args.set c.loop-digit.carry (omega arith) c.loop-digit.invariant c.requires
