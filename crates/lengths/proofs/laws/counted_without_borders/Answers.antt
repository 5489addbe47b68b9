-- Dropping the borders keeps what packings are made of, and so packings.
use Rattle.lengths.specs.OfferedLemmas.{borders_dropped, packings_agree}
use Rattle.lengths.proofs.laws.counted_without_borders.Goals as goal

pub returns : goal.returns
returns c = record { carries = borders_dropped; packs = packings_agree }
