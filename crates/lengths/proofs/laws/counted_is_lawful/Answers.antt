-- Counted lengths are lawful.
use Rattle.lengths.specs.OfferedLemmas.{counted_laws}
use Rattle.lengths.proofs.laws.counted_is_lawful.Goals as goal

pub returns : goal.returns
returns c = counted_laws
