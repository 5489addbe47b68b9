-- Plain lengths are lawful.
use Rattle.lengths.specs.OfferedLemmas.{plain_laws}
use Rattle.lengths.proofs.laws.plain_is_lawful.Goals as goal

pub returns : goal.returns
returns c = plain_laws
