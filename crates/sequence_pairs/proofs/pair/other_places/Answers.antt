-- A place more counts those that are over the module.
use Rattle.std.proofs.Common.{◌+◌, get_or, ap, ◌∙◌, arith}
use Rattle.sequence_pairs.proofs.TakenIn.{successors_few, predecessors_few, adding_more, other_counted}
use Rattle.sequence_pairs.proofs.pair.other_places.Goals as goal

pub overflow_add-place : goal.overflow_add-place
overflow_add-place c =
    let x = c.args.taken.now in
    let j = c.loop-j.j in
    omega (
      arith,
      c.loop-j.invariant.rest j (omega arith) c.loop-j-test.true,
      predecessors_few x.graphs.right j,
      c.len.ensures,
      (successors_few x.graphs.above j c.successors.result c.successors.ensures).1,
    )

pub loop-j-preserved : goal.loop-j-preserved
loop-j-preserved c =
    adding_more c.args.taken.now c.loop-j.j c.loop-j.place-items c.successors.result _ c.loop-j.invariant c.loop-j-test.true
    c.successors.ensures (ap (λ n. get_or c.loop-j.place-items c.loop-j.j 0 + n) c.len.ensures)

pub returns : goal.returns
returns c = λ j h.
    let few = c.args.taken.now.few in
    c.loop-j.invariant.done j (omega arith) ∙ other_counted c.args.taken.now j
