-- Each successor adds what it leads to.
use Rattle.std.proofs.Common.{◌||◌, ap, ◌∙◌}
use Rattle.module_set.specs.Members.{member}
use Rattle.graphs.proofs.Reaching.{reaching_none, reaching_more, reaching_all}
use Rattle.graphs.proofs.graph.Graph.two_steps.Goals as goal

pub loop-j-init : goal.loop-j-init
loop-j-init c =
    reaching_none c.args.self.now c.args.i c.empty-reached.result c.into_iter-j-iterator.result.rest c.empty-reached.ensures
    (λ j. ap (λ s. member s j) c.into_iter-j-iterator.ensures.into_iter_gives ∙ c.successors-j-items.ensures j)

pub loop-j-preserved : goal.loop-j-preserved
loop-j-preserved c =
    reaching_more c.args.self.now c.args.i c.in-Some.j c.loop-j.reached c.union-reached.result c.loop-j.j-iterator.rest
    c.next.new.self.rest c.loop-j.invariant c.in-Some.ensures.steps
    (λ k. c.union-reached.ensures k ∙ ap (λ b. member c.loop-j.reached k || b) (c.successors.ensures k))

pub returns : goal.returns
returns c =
    reaching_all c.args.self.now c.args.i c.loop-j.reached c.loop-j.j-iterator.rest c.loop-j.invariant c.in-None.ensures.steps.0
