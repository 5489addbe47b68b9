-- Counted lengths are lawful.
use Rattle.lengths.specs.CountedLengths.{counted_lengths}
use Rattle.lengths.specs.Families.{one_lawful}
use Rattle.lengths.specs.OfferedLemmas.{counted_laws}
use Rattle.listing.proofs.scripted.Scripted.new.Goals as goal

pub returns-clause-law : goal.returns-clause-law
returns-clause-law g c = c.over.ensures.law (one_lawful counted_lengths counted_laws)
