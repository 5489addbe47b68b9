-- Each module gets those that were met.
use Rattle.std.proofs.Common.{◌-◌, refl, arith}
use Rattle.sequence_pairs.proofs.Following.{following_none, following_more, following_all}
use Rattle.sequence_pairs.proofs.order.Order.followers.Goals as goal

pub loop-place-init : goal.loop-place-init
loop-place-init c =
    let x = c.args.self.now in
    let few = x.few in
    following_none x.count x.modules x.places few (omega (arith, x.room)) x.kept c.empty-graph.result c.empty-met.result
    c.empty-graph.ensures c.empty-met.ensures

pub loop-place-preserved : goal.loop-place-preserved
loop-place-preserved c =
    let x = c.args.self.now in
    let few = x.few in
    following_more x.count x.modules x.places few (omega (arith, x.room)) x.kept (c.loop-place.place - 1) c.loop-place.place _
    (omega arith) (omega arith) refl c.loop-place.graph c.set_successors.new.self c.loop-place.met c.with-met.result
    c.loop-place.invariant c.set_successors.ensures c.with-met.ensures

pub returns : goal.returns
returns c =
    let x = c.args.self.now in
    following_all x.count x.places c.loop-place.place c.loop-place.graph c.loop-place.met (omega arith) c.loop-place.invariant
