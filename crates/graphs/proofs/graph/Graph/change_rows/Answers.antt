-- Each of the set's members has its row changed.
use Rattle.std.proofs.Common.{arith}
use Rattle.module_set.proofs.Taking.{least_in}
use Rattle.graphs.proofs.Changing.{changing_more, changing_all}
use Rattle.graphs.proofs.graph.Graph.change_rows.Goals as goal

pub offset_bounds-self-i : goal.offset_bounds-self-i
offset_bounds-self-i g c =
    let small = least_in c.loop-i.i-iterator.rest c.in-Some.i c.in-Some.ensures.steps.0 in
    record { fits = omega (arith, small.0) }

pub bounds-self-i : goal.bounds-self-i
bounds-self-i g c = (least_in c.loop-i.i-iterator.rest c.in-Some.i c.in-Some.ensures.steps.0).0

pub loop-i-preserved : goal.loop-i-preserved
loop-i-preserved g c = (
  c.loop-i.invariant.0,
  changing_more _ _ _ _ _ _ c.in-Some.i c.change.result c.loop-i.invariant.1 c.in-Some.ensures.steps c.change.ensures,
)

pub returns : goal.returns
returns g c =
    changing_all _ _ c.loop-i.i-iterator.rest _ _ c.loop-i.invariant.1 c.in-None.ensures.steps.0
