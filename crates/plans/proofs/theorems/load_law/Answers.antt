-- The law of the load, by its proof.
use Rattle.plans.proofs.LoadLaw.{load_law}
use Rattle.plans.proofs.theorems.load_law.Goals as goal

pub returns : goal.returns
returns c = load_law
