-- A row counts the modules to which its own has an edge.
use Rattle.std.proofs.Common.{◌∙◌, refl, arith}
use Rattle.std.proofs.lemmas.Grind.{common_steps}
use Rattle.plans.proofs.Searches.{count_le}
use Rattle.graphs.specs.Edges.{edge}
use Rattle.graphs.proofs.Tallying.{below_more, below_all}
use Rattle.graphs.proofs.graph.Graph.predecessor_counts.Goals as goal

pub add-requires : goal.add-requires
add-requires c = λ k.
    omega (arith, c.loop-row.invariant k, count_le c.loop-row.row-index (λ i. edge c.args.self.now i k), c.loop-row-test.true)

pub loop-row-preserved : goal.loop-row-preserved
loop-row-preserved c =
    below_more c.args.self.now c.loop-row.tally c.add.new.self c.loop-row.row-index _ c.loop-row-test.true refl c.loop-row.invariant c.add.ensures

pub loop-j-preserved : goal.loop-j-preserved
loop-j-preserved c =
    let here = c.count.ensures ∙ below_all c.args.self.now c.loop-row.tally c.loop-row.row-index (omega arith) c.loop-row.invariant c.loop-j.j in
    λ k h. grind (arith, common_steps)
