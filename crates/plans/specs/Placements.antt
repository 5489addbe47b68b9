-- Placements of a floorplan: keeping the relations, overlapping, and the least.
use Rattle.std.specs.Prelude.{◌≡◌, ℕ, ◌+◌, ◌<◌, ◌≤◌, Bool, false, ◌||◌, ◌≢◌}
use Rattle.plans.specs.Axes.{Keeps, Inside, LongestPaths, LongestPath}
use Rattle.plans.specs.Kinds.{Kind, AtMost, sum_limit}
use Rattle.plans.specs.Packing.{Task, Pins, no_pins, side_of, axis_of, far_of, chip_of}

-- near edges across and upwards of each module
pub record Placement (L : Type 0) : Type 0 where
  pub across : ℕ → L
  pub up : ℕ → L

module _ {L : Type 0} (K : Kind L) (t : Task L) where
  -- a placement keeps the relations and the pins, along both axes
  pub record KeepsPlan (pins : Pins L) (e : Placement L) : Type 0 where
    pub across : Keeps K (axis_of K t pins 1) e.across
    pub up : Keeps K (axis_of K t pins 2) e.up

  -- along the axis of graph g every module ends within the limit: its near edge and side together
  abbrev pub EndsWithin : ℕ → (ℕ → L) → Type 0
  EndsWithin g e = (i : ℕ) → i < t.plan.size → K.reach (e i) + K.reach (side_of K t g i) ≤ sum_limit

  -- along the axis of graph g: what stands before another extends no further than the limit, and every module
  -- ends within it
  pub record InsideAlong (g : ℕ) (e : ℕ → L) : Type 0 where
    pub steps : Inside K (axis_of K t no_pins g) e
    pub ends : EndsWithin g e

  -- both along each axis
  pub record InsidePlan (e : Placement L) : Type 0 where
    pub across : InsideAlong 1 e.across
    pub up : InsideAlong 2 e.up

  -- along the axis of graph g the far edge of one module is at most the near edge of the other
  abbrev pub clear : ℕ → (ℕ → L) → ℕ → ℕ → Bool
  clear g e i j = K.at_most (far_of K t g e i) (e j) || K.at_most (far_of K t g e j) (e i)

  -- two modules overlap unless they are clear of each other along some axis
  abbrev pub Overlap : Placement L → ℕ → ℕ → Type 0
  Overlap e i j = (clear 1 e.across i j || clear 2 e.up i j) ≡ false

  -- each near and far edge, the chip's sides and its area are at most those of another placement
  pub record NoLater (e other : Placement L) : Type 0 where
    pub near_across : (i : ℕ) → i < t.plan.size → AtMost K (e.across i) (other.across i)
    pub near_up : (i : ℕ) → i < t.plan.size → AtMost K (e.up i) (other.up i)
    pub far_across : (i : ℕ) → i < t.plan.size → AtMost K (far_of K t 1 e.across i) (far_of K t 1 other.across i)
    pub far_up : (i : ℕ) → i < t.plan.size → AtMost K (far_of K t 2 e.up i) (far_of K t 2 other.up i)
    pub width : AtMost K (chip_of K t e.across e.up).width (chip_of K t other.across other.up).width
    pub height : AtMost K (chip_of K t e.across e.up).height (chip_of K t other.across other.up).height
    pub area : (chip_of K t e.across e.up).area ≤ (chip_of K t other.across other.up).area

  -- the least of a family of placements within a limit: one of them in which no two modules overlap, and which
  -- is no later than any other of them
  pub record LeastAmong (Kept Within : Placement L → Type 0) (e : Placement L) : Type 0 where
    pub keeps : Kept e
    pub inside : Within e
    pub separate : (i j : ℕ) → i < t.plan.size → j < t.plan.size → i ≢ j → Overlap e i j → ⊥
    pub least : (other : Placement L) → Kept other → Within other → NoLater e other

  -- no placement is of the family within the limit
  abbrev pub NoneAmong : (Placement L → Type 0) → (Placement L → Type 0) → Type 0
  NoneAmong Kept Within = (e : Placement L) → Kept e → Within e → ⊥

  -- the least placement within the limit that keeps the relations and the pins
  abbrev pub LeastPlacement : Pins L → Placement L → Type 0
  LeastPlacement pins e = LeastAmong (KeepsPlan pins) InsidePlan e

  -- no placement within the limit keeps the relations and the pins
  abbrev pub NoPlacement : Pins L → Type 0
  NoPlacement pins = NoneAmong (KeepsPlan pins) InsidePlan

  -- with no module pinned, along both axes each near edge is the length of a longest path
  pub record ByLongestPaths (e : Placement L) : Type 0 where
    pub across : (i : ℕ) → i < t.plan.size → LongestPaths K (axis_of K t no_pins 1) e.across i
    pub up : (i : ℕ) → i < t.plan.size → LongestPaths K (axis_of K t no_pins 2) e.up i
    pub across_path : (i : ℕ) → i < t.plan.size → LongestPath K (axis_of K t no_pins 1) e.across i
    pub up_path : (i : ℕ) → i < t.plan.size → LongestPath K (axis_of K t no_pins 2) e.up i
