-- The graphs of the two orders stand for what the pair means.
use Rattle.sequence_pairs.proofs.HandedOut.{pair_stands}
use Rattle.sequence_pairs.proofs.representing.SequencePairRepresentation.to_graphs.Goals as goal

pub invariant_of-result : goal.invariant_of-result
invariant_of-result c =
    let made =
    pair_stands c.args.self.now c.followers-packing.result c.followers-other.result c.followers-packing.ensures c.followers-other.ensures
    (record { right = c.intersection.result; above = c.minus.result }) c.intersection.ensures c.minus.ensures
    in
    record {
      few = made.few;
      long = made.long;
      feasible = made.feasible;
      beside = made.shown.0;
      over = made.shown.1;
    }

pub returns : goal.returns
returns c =
    (pair_stands c.args.self.now c.followers-packing.result c.followers-other.result c.followers-packing.ensures c.followers-other.ensures
    (record { right = c.intersection.result; above = c.minus.result }) c.intersection.ensures c.minus.ensures).is
