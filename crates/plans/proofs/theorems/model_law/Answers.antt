-- The law of the model, at a family of kinds.
use Rattle.plans.proofs.CallsInWords.{steps_in_words}
use Rattle.plans.proofs.ModelLaw.{runs_feasible}
use Rattle.plans.proofs.RotatedModules.{runs_rotate}
use Rattle.plans.proofs.RunKept.{model_keeps, runs_accounted}
use Rattle.plans.proofs.theorems.model_law.Goals as goal

pub returns : goal.returns
returns g c =
    record {
      feasible = runs_feasible g.F.Family.length_of;
      rotations = runs_rotate g.F.Family.length_of;
      words = steps_in_words;
      accounts = runs_accounted g.F.Family.kind_of;
      kept = model_keeps g.F.Family.kind_of;
    }
