-- One row more is made.
use Rattle.std.proofs.Common.{arith}
use Rattle.graphs.proofs.Combining.{combining_none, combining_more}
use Rattle.graphs.proofs.graph.Graph.combined.Goals as goal

pub loop-i-init : goal.loop-i-init
loop-i-init g c = (c.requires, combining_none _ c.args.self.now.rows c.args.other.now.rows c.args.self.now.full)

pub loop-i-preserved : goal.loop-i-preserved
loop-i-preserved g c =
    (c.loop-i.invariant.0, combining_more _ c.loop-i.i _ _ c.loop-i.row-items c.make.result c.loop-i.invariant.1 (omega arith) c.make.ensures)

pub returns : goal.returns
returns g c = record { each = λ i h. c.loop-i.invariant.1.made i (omega arith) }
