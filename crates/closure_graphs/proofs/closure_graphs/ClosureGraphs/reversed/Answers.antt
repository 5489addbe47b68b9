-- A reverse of a reduction edge, with the sequence that fits.
use Rattle.closure_graphs.proofs.Changes.{edge_reversed}
use Rattle.closure_graphs.specs.Meaning.{EdgeTaken}
use Rattle.closure_graphs.proofs.closure_graphs.ClosureGraphs.reversed.Goals as goal

pub returns : goal.returns
returns c =
    let found = c.in_ok-direction.ensures in
    let made = c.new-edge.ensures in
    let taken : EdgeTaken c.args.self.now c.args.a c.args.b c.new-edge.result = (found.0, rw made.along found.1, made.first, made.second, made.graphs) in
    let new =
    edge_reversed c.args.self.now c.args.a c.args.b c.new-edge.result c.reverse.new.self taken c.reverse.ensures.along
    c.graphs.result c.graphs.ensures c.reverse.ensures.own c.reverse.ensures.other
    in
    record { drawn = (found.0, new.0); fitted = new.1 }
