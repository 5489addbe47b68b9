-- The law of transposition, by its proof.
use Rattle.plans.proofs.TransposeLaw.{transpose_law}
use Rattle.plans.proofs.theorems.transpose_law.Goals as goal

pub returns : goal.returns
returns c = transpose_law
