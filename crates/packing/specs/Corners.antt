-- Corners: where a module begins and where a chip ends, by an edge across and one upwards.
use Rattle.std.specs.Prelude.{◌*◌, Bool, ◌&&◌, List, fold}
use Rattle.plans.specs.Kinds.{Kind}
use Rattle.plans.specs.declared.measures.Placed.{Placed}
use Rattle.plans.specs.declared.measures.Chip.{Chip}
use Rattle.packing.specs.declared.pin.Corner.{Corner}

-- where the next module along each axis may begin after a placed one: at its far edge
abbrev pub next_after : {L : Type 0} → Placed L → Corner L
next_after placed = record { across = placed.right; up = placed.top }

module _ {L : Type 0} (K : Kind L) where
  -- where both axes begin
  abbrev pub first_corner : Corner L
  first_corner = record { across = K.origin; up = K.origin }

  -- the later of two corners along each axis
  abbrev pub later_corner : Corner L → Corner L → Corner L
  later_corner a b = record { across = K.later a.across b.across; up = K.later a.up b.up }

  -- a corner is at most another, along both axes
  abbrev pub corner_at_most : Corner L → Corner L → Bool
  corner_at_most a b = K.at_most a.across b.across && K.at_most a.up b.up

  -- a far corner moved out to hold a placed module: the chip's end, not where the next module may begin
  abbrev pub moved_out : Corner L → Placed L → Corner L
  moved_out far placed = later_corner far (record { across = placed.right; up = placed.top })

  -- the latest far edges of all records of a list
  abbrev pub far_corner : List (Placed L) → Corner L
  far_corner records = fold moved_out first_corner records

  -- the chip that ends at a far corner
  abbrev pub chip_to : Corner L → Chip L
  chip_to far =
      record { width = far.across; height = far.up; area = K.reach far.across * K.reach far.up }

  -- the chip around all records of a list
  abbrev pub chip_around : List (Placed L) → Chip L
  chip_around records = chip_to (far_corner records)
