-- So far the sides of the modules that were passed have their borders.
use Rattle.listing.proofs.bordered.with_borders.Given as goal
use Rattle.listing.specs.Bordered.{bordered_sides, in_counts}
use Rattle.std.proofs.Common.{◌≡◌, length, map, take}

abbrev pub invariant-loop-i : goal.invariant-loop-i
invariant-loop-i l = record {
  long : length l.counted ≡ 64;
  counted_so_far : in_counts (take l.i l.counted) ≡ map bordered_sides (take l.i l.sides);
}
