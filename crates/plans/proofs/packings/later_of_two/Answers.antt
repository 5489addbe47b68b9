-- The later of two, by which of them is at most the other.
use Rattle.plans.proofs.KindLaws.{later_laws}
use Rattle.plans.proofs.packings.later_of_two.Goals as goal

pub returns : goal.returns
returns g c = later_laws
