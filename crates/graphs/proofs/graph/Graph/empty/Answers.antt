-- Rows without members have no edges.
use Rattle.std.proofs.Common.{refl}
use Rattle.graphs.proofs.Rows.{none_edges}
use Rattle.graphs.proofs.graph.Graph.empty.Goals as goal

pub returns : goal.returns
returns c = none_edges _ c.empty.result refl c.empty.ensures
