-- The packing is the least placement, with any pins and for each of the three calls, and by longest paths.
use Rattle.plans.proofs.FlatAxes.{inside_by_ends}
use Rattle.plans.proofs.LeastPlacements.{one_least, packed_plan, packed_longest}
use Rattle.plans.proofs.PackingLaws.{pack_law, pinned_law, rotated_law}
use Rattle.plans.proofs.packings.packing_a_floorplan.Goals as goal

pub returns : goal.returns
returns g c = record {
  plans = λ K sum join t ok pins close. packed_plan K sum join t pins ok close;
  pack = pack_law;
  pinned = pinned_law;
  rotated = rotated_law;
  longest = λ K sum later t ok. packed_longest K sum t ok later;
  inside = inside_by_ends;
  one = λ K sum t pins. one_least K sum t;
}
