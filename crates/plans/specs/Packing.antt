-- Packing of a floorplan: near and far edges, the chip, and every place of the result list.
use Rattle.std.specs.Prelude.{ℕ, ◌+◌, ◌*◌, Bool, true, cond, not, List, ◌++◌, map, drop, Some, None, Option, ◌==◌, slice_index_or}
use Rattle.std.specs.List.{range_with_len}
use Rattle.plans.specs.Axes.{Axis, latest, near_edge}
use Rattle.plans.specs.Kinds.{Kind}
use Rattle.plans.specs.Tables.{Floorplan, table_in}
use Rattle.plans.specs.declared.measures.Sides.{Sides}
use Rattle.plans.specs.declared.measures.Placed.{Placed}
use Rattle.plans.specs.declared.measures.Chip.{Chip}

-- what is packed: a floorplan, its rotated modules, and the sides of each module
pub record Task (L : Type 0) : Type 0 where
  pub plan : Floorplan
  pub rotated : ℕ → Bool
  pub sides : List (Sides L)

-- the fixed near edge of a module along the axis of a graph, if it has one
abbrev pub Pins : Type 0 → Type 0
Pins L = ℕ → ℕ → Option L

-- no module is pinned
abbrev pub no_pins : {L : Type 0} → Pins L
no_pins g i = None

-- one module is pinned, across at the first length and upwards at the second
abbrev pub one_pin : {L : Type 0} → ℕ → L → L → Pins L
one_pin a across up g i = cond (i == a) (Some (cond (g == 1) across up)) None

-- one module rotated once more
abbrev pub rotated_once : (ℕ → Bool) → ℕ → ℕ → Bool
rotated_once rotated a i = cond (i == a) (not (rotated i)) (rotated i)

-- the task with one module rotated once more
abbrev pub rotated_task : {L : Type 0} → Task L → ℕ → Task L
rotated_task t a = record t { rotated = rotated_once t.rotated a }

-- the side along the axis of graph g: the width across and the height upwards, exchanged where rotated
abbrev pub side_along : {L : Type 0} → ℕ → Bool → Sides L → L
side_along g rotated s =
    cond (g == 1) (cond rotated s.height s.width) (cond rotated s.width s.height)

module _ {L : Type 0} (K : Kind L) where
  -- no sides: zero width and height
  abbrev pub no_sides : Sides L
  no_sides = record { width = K.origin; height = K.origin }

  -- a record with all its edges at zero
  abbrev pub at_origin : Placed L
  at_origin = record { left = K.origin; bottom = K.origin; right = K.origin; top = K.origin }

  -- the side of module i along the axis of graph g
  abbrev pub side_of : Task L → ℕ → ℕ → L
  side_of t g i = side_along g (t.rotated i) (slice_index_or t.sides i no_sides)

  -- where the next module along the axis of graph g may begin after module i at a near edge: at its far edge
  abbrev pub next_of : Task L → ℕ → ℕ → L → L
  next_of t g i e = K.plus e (side_of t g i)

  -- the axis of graph g: a module stands before those to which it has an edge
  abbrev pub axis_of : Task L → Pins L → ℕ → Axis L
  axis_of t pins g =
      record {
        size = t.plan.size;
        before = λ j i. (table_in t.plan j i == g);
        step = next_of t g;
        takes = λ i e. K.reach e + K.reach (side_of t g i);
        fixed = pins g;
      }

  -- far edges follow from near edges
  abbrev pub far_of : Task L → ℕ → (ℕ → L) → ℕ → L
  far_of t g e i = K.plus (e i) (side_of t g i)

  -- the latest far edge, zero for no modules
  abbrev pub span_of : Task L → ℕ → (ℕ → L) → L
  span_of t g e = latest K (λ i. true) (far_of t g e) t.plan.size

  -- the chip of near edges across and upwards
  abbrev pub chip_of : Task L → (ℕ → L) → (ℕ → L) → Chip L
  chip_of t across up =
      record {
        width = span_of t 1 across;
        height = span_of t 2 up;
        area = K.reach (span_of t 1 across) * K.reach (span_of t 2 up);
      }

  -- the near edges of a packing along the axis of graph g
  abbrev pub packed_edge : Task L → Pins L → ℕ → ℕ → L
  packed_edge t pins g = near_edge K (axis_of t pins g)

  -- the record of module i in a packing
  abbrev pub packed_module : Task L → Pins L → ℕ → Placed L
  packed_module t pins i =
      record {
        left = packed_edge t pins 1 i;
        bottom = packed_edge t pins 2 i;
        right = far_of t 1 (packed_edge t pins 1) i;
        top = far_of t 2 (packed_edge t pins 2) i;
      }

  -- the chip of a packing
  abbrev pub packed_chip : Task L → Pins L → Chip L
  packed_chip t pins = chip_of t (packed_edge t pins 1) (packed_edge t pins 2)

  -- the result list of a packing: one record a module, and the places after them as they were
  abbrev pub packed_list : Task L → Pins L → List (Placed L) → List (Placed L)
  packed_list t pins results =
      map (packed_module t pins) (range_with_len 0 t.plan.size) ++ drop t.plan.size results
