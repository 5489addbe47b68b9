-- Where neither graph has an edge the table has none.
use Rattle.std.proofs.Common.{sym, refl}
use Rattle.closure_graphs.proofs.Changes.{told}
use Rattle.closure_graphs.proofs.closure_graphs.ClosureGraphs.direction.Goals as goal

pub returns-else-has_edge-2 : goal.returns-else-has_edge-2
returns-else-has_edge-2 c =
    told c.args.self.now c.args.i c.args.j 0 (rw (sym c.if-has_edge.ensures, sym c.if-has_edge-2.ensures) refl)
