-- The two orders make what the graphs mean.
use Rattle.sequence_pairs.proofs.TakenIn.{packing_distinct, other_distinct, pair_taken}
use Rattle.sequence_pairs.proofs.pair.SequencePair.of_graphs.Goals as goal

pub of_modules-requires-clause-distinct : goal.of_modules-requires-clause-distinct
of_modules-requires-clause-distinct c = packing_distinct c.args.taken.now

pub at_places-requires-clause-distinct : goal.at_places-requires-clause-distinct
at_places-requires-clause-distinct c = other_distinct c.args.taken.now c.other_places.result c.other_places.ensures

pub returns : goal.returns
returns c =
    pair_taken c.args.taken.now c.other_places.result c.other_places.ensures c.of_modules.result c.at_places.result
    c.of_modules.ensures.count c.of_modules.ensures.modules c.at_places.ensures.count c.at_places.ensures.places
