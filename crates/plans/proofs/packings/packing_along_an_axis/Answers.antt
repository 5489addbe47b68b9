-- Near edges are least, and no path exceeds them; with no fixed edge they are longest paths.
use Rattle.plans.proofs.AxisPacking.{packed_along}
use Rattle.plans.proofs.LongestPaths.{paths_covered, longest_along}
use Rattle.plans.proofs.packings.packing_along_an_axis.Goals as goal

pub returns : goal.returns
returns g c = record {
  least = packed_along;
  covered = λ K sum x law e keeps inside. paths_covered K sum x law e keeps inside;
  longest = λ K sum later x law. longest_along K x sum later law;
}
