-- A move of a reduction edge.
use Rattle.closure_graphs.proofs.Changes.{edge_moved}
use Rattle.closure_graphs.specs.Meaning.{EdgeTaken}
use Rattle.closure_graphs.proofs.closure_graphs.ClosureGraphs.moved.Goals as goal

pub returns : goal.returns
returns c =
    let found = c.in_ok-direction.ensures in
    let new = c.new-edge.ensures in
    let taken : EdgeTaken c.args.self.now c.args.a c.args.b c.new-edge.result = (found.0, rw new.along found.1, new.first, new.second, new.graphs) in (
      found.0,
      edge_moved c.args.self.now c.args.a c.args.b c.new-edge.result c.move_over.new.self taken c.move_over.ensures.along
          c.graphs.result c.graphs.ensures c.move_over.ensures.own c.move_over.ensures.other,
    )
