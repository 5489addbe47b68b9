-- What packing a floorplan promises, for every kind of length: the least placement, "no place", longest paths.
use Rattle.std.specs.Prelude.{◌≡◌, ℕ, ◌+◌, ◌*◌, ◌<◌, ◌≤◌, true, false, List, length, Some, None}
use Rattle.plans.specs.Kinds.{Kind, SumLaws, JoinLaws, side_limit, pin_limit, sum_limit}
use Rattle.plans.specs.LaterOfTwo.{LaterLaws}
use Rattle.plans.specs.Packing.{Task, Pins, no_pins, one_pin, rotated_task, side_of, axis_of, span_of, packed_edge}
use Rattle.plans.specs.PackingCalls.{wrong_side, pack_refusal, pin_refusal, rotation_refusal, no_place}
use Rattle.plans.specs.Placements.{Placement, EndsWithin, InsideAlong, LeastPlacement, NoPlacement, ByLongestPaths}
use Rattle.plans.specs.Sequences.{count_before}
use Rattle.plans.specs.Tables.{Feasible}
use Rattle.plans.specs.declared.measures.Placed.{Placed}

module _ {L : Type 0} (K : Kind L) where
  -- a feasible floorplan with two possible sides for each module
  pub record Packable (t : Task L) : Type 0 where
    pub feasible : Feasible t.plan
    pub listed : length t.sides ≡ t.plan.size
    pub possible : (i : ℕ) → i < t.plan.size → wrong_side K t.sides i ≡ false

  -- no pin lies too far out
  abbrev pub NearPins : Pins L → Type 0
  NearPins pins = (g i : ℕ) (v : L) → pins g i ≡ Some v → K.reach v ≤ pin_limit

  module _ (t : Task L) where
    -- the near edges of a packing
    abbrev pub packed_placement : Pins L → Placement L
    packed_placement pins = record { across = packed_edge K t pins 1; up = packed_edge K t pins 2 }

    -- along the axis of a graph, every sum that a packing forms stays within the limit
    pub record SumsWithin (pins : Pins L) (g : ℕ) : Type 0 where
      -- a near edge lies no further out than a pin and the greatest side of each module before it
      pub near :
          (i : ℕ) → i < t.plan.size
          → K.reach (packed_edge K t pins g i)
          ≤ pin_limit + count_before t.plan.size (axis_of K t pins g).before i * side_limit
      -- so a near edge and its side together, and the chip, extend no further than a pin and 64 sides
      pub sums : (i : ℕ) → i < t.plan.size → K.reach (packed_edge K t pins g i) + K.reach (side_of K t g i) ≤ sum_limit
      pub span : K.reach (span_of K t g (packed_edge K t pins g)) ≤ sum_limit

    -- a packing with pins is the least placement, and there is "no place" exactly where there is no placement
    pub record PackedPlan (pins : Pins L) : Type 0 where
      pub within : (g : ℕ) → 0 < g → SumsWithin pins g
      pub least : no_place K t pins ≡ false → LeastPlacement K t pins (packed_placement pins)
      pub none : no_place K t pins ≡ true → NoPlacement K t pins
      pub only : NoPlacement K t pins → no_place K t pins ≡ true

    -- a packing without pins is the least placement
    pub record PackedFreely : Type 0 where
      pub within : (g : ℕ) → 0 < g → SumsWithin no_pins g
      pub least : LeastPlacement K t no_pins (packed_placement no_pins)

-- along an axis near edges are inside exactly where every module ends within the limit
pub record InsideByEnds (L : Type 0) : Type 0 where
  pub enough : (K : Kind L) (t : Task L) (g : ℕ) (e : ℕ → L) → EndsWithin K t g e → InsideAlong K t g e
  pub needed : (K : Kind L) (t : Task L) (g : ℕ) (e : ℕ → L) → InsideAlong K t g e → EndsWithin K t g e

-- there is but one least placement: two begin each module at the same near edges
abbrev pub OneLeast : Type 0 → Type 0
OneLeast L =
    (K : Kind L) → SumLaws K → (t : Task L) (pins : Pins L) (e f : Placement L)
    → LeastPlacement K t pins e → LeastPlacement K t pins f
    → (i : ℕ) → i < t.plan.size → (e.across i ≡ f.across i) × (e.up i ≡ f.up i)

-- with any pins that are not too far out, by the laws of sums and of the later of two
abbrev pub PacksPlans : Type 0 → Type 0
PacksPlans L =
    (K : Kind L) → SumLaws K → JoinLaws K → (t : Task L) → Packable K t → (pins : Pins L) → NearPins K pins
    → PackedPlan K t pins

-- a packing that is not refused
abbrev pub PackIsLeast : Type 0 → Type 0
PackIsLeast L =
    (K : Kind L) → SumLaws K → JoinLaws K → (t : Task L) → Feasible t.plan → (results : List (Placed L))
    → pack_refusal K t results ≡ None → PackedFreely K t

-- a packing with one module pinned that is not refused before
abbrev pub PinnedIsLeast : Type 0 → Type 0
PinnedIsLeast L =
    (K : Kind L) → SumLaws K → JoinLaws K → (t : Task L) → Feasible t.plan → (results : List (Placed L)) (a : ℕ) (across up : L)
    → pin_refusal K t results a across up ≡ None → PackedPlan K t (one_pin a across up)

-- a packing with one module rotated once more that is not refused
abbrev pub RotatedIsLeast : Type 0 → Type 0
RotatedIsLeast L =
    (K : Kind L) → SumLaws K → JoinLaws K → (t : Task L) → Feasible t.plan → (results : List (Placed L)) (a : ℕ)
    → rotation_refusal K t results a ≡ None → PackedFreely K (rotated_task t a)

-- where any two lengths compare, the near edges of a packing without pins are longest paths
abbrev pub PacksByLongestPaths : Type 0 → Type 0
PacksByLongestPaths L =
    (K : Kind L) → SumLaws K → LaterLaws K → (t : Task L) → Packable K t
    → ByLongestPaths K t (packed_placement K t no_pins)
