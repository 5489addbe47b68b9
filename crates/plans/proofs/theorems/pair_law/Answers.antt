-- The law of the sequence pair, by its proof.
use Rattle.plans.proofs.PairLaw.{pair_law}
use Rattle.plans.proofs.theorems.pair_law.Goals as goal

pub returns : goal.returns
returns c = pair_law
