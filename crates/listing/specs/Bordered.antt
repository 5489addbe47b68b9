-- Sides that were read, with one border each.
use Rattle.std.specs.Prelude.{◌≤◌, List, map}
use Rattle.lengths.specs.CountedLengths.{count_of}
use Rattle.lengths.specs.declared.counted.Counted.{Counted}
use Rattle.lengths.specs.declared.plain.Plain.{Plain}
use Rattle.listing.specs.Whole.{bordered}
use Rattle.plans.specs.CarriedPackings.{carry_sides}
use Rattle.plans.specs.Kinds.{Count}
use Rattle.plans.specs.declared.measures.Sides.{Sides}

-- Two sides, each with one border.
abbrev pub bordered_sides : Sides Plain → Sides Count
bordered_sides s = record { width = bordered s.width.0; height = bordered s.height.0 }

-- A side that a module can have.
pub record PossibleSide (side : Plain) : Type 0 where
  pub some : 1 ≤ side.0
  pub small : side.0 ≤ 100000

-- Two sides that a module can have.
pub record PossibleSides (sides : Sides Plain) : Type 0 where
  pub width : PossibleSide sides.width
  pub height : PossibleSide sides.height

-- Counted sides, by their numbers.
abbrev pub in_counts : List (Sides Counted) → List (Sides Count)
in_counts sides = map (carry_sides count_of) sides
