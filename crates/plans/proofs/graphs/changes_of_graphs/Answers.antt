-- What the changes keep and do.
use Rattle.plans.proofs.ChangesFeasible.{changes_feasible}
use Rattle.plans.proofs.ChangesInWords.{changes_as_told}
use Rattle.plans.proofs.ReductionEdges.{reduction_edges}
use Rattle.plans.proofs.Repair.{repair_fits}
use Rattle.plans.proofs.graphs.changes_of_graphs.Goals as goal
use Rattle.std.proofs.Common.{refl}

pub returns : goal.returns
returns c =
    record {
      feasible = changes_feasible;
      told = changes_as_told;
      rotations = λ p a. refl;
      reduction = reduction_edges;
      repair = repair_fits;
    }
