-- The floorplan that a sequence pair means.
use Rattle.plans.specs.Tables.{Floorplan}
use Rattle.sequence_pairs.specs.Keeping.{pair_of}
use Rattle.sequence_pairs.specs.declared.pair.SequencePair.{SequencePair}

-- the floorplan of the two sequences
abbrev pub meant : SequencePair → Floorplan
meant x = pair_of x.packing.count x.other.modules x.packing.modules
