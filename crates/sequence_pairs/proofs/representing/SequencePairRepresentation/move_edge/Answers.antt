-- The pair of the changed graphs means the changed floorplan.
use Rattle.plans.specs.declared.change.Change.TheVariants.{MoveEdge}
use Rattle.sequence_pairs.proofs.ThroughGraphs.{through_graphs}
use Rattle.sequence_pairs.proofs.representing.SequencePairRepresentation.move_edge.Goals as goal

pub returns : goal.returns
returns c =
    through_graphs (MoveEdge c.args.a c.args.b) c.move_edge.result _ _ _ _ _ c.to_graphs-graphs.ensures c.of_graphs.ensures c.in_ok-move_edge.was c.move_edge.ensures
