-- The edges are those that the rows tell, and beyond 63 there are none.
use Rattle.std.proofs.Common.{arith}
use Rattle.std.proofs.lemmas.Grind.{common_steps}
use Rattle.graphs.proofs.Rows.{edge_inside, edge_outside}
use Rattle.graphs.proofs.graph.Graph.predecessors.Goals as goal

pub loop-i-preserved : goal.loop-i-preserved
loop-i-preserved c =
    let here = edge_inside c.args.self.now c.loop-i.i c.args.j c.loop-i-test.true in
    λ k. grind (arith, common_steps)

pub returns : goal.returns
returns c = λ k. let out = edge_outside c.args.self.now k c.args.j in grind (arith, common_steps)
