-- The exchanged graphs stand for the floorplan with the axes exchanged.
use Rattle.closure_graphs.proofs.Transposing.{transposed_stands}
use Rattle.closure_graphs.proofs.closure_graphs.ClosureGraphs.transposed.Goals as goal

pub invariant_of-result : goal.invariant_of-result
invariant_of-result c =
    let made = transposed_stands c.args.self.now in
    record {
      few = made.few;
      long = made.long;
      feasible = made.feasible;
      beside = made.shown.0;
      over = made.shown.1;
    }

pub returns : goal.returns
returns c = (transposed_stands c.args.self.now).is
