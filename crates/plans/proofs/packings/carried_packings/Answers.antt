-- Near edges are carried round by round, and all else follows from them.
use Rattle.plans.proofs.CarriedPackings.{packs_carried}
use Rattle.plans.proofs.packings.carried_packings.Goals as goal

pub returns : goal.returns
returns g c = packs_carried
