-- The pair of the changed graphs means the changed floorplan.
use Rattle.plans.specs.declared.change.Change.TheVariants.{Swap}
use Rattle.sequence_pairs.proofs.ThroughGraphs.{through_graphs}
use Rattle.sequence_pairs.proofs.representing.SequencePairRepresentation.swap.Goals as goal

pub returns : goal.returns
returns c =
    through_graphs (Swap c.args.a c.args.b) c.swap.result _ _ _ _ _ c.to_graphs-graphs.ensures c.of_graphs.ensures c.in_ok-swap.was c.swap.ensures
