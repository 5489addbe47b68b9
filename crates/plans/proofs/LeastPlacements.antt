-- The packing of a floorplan is its least placement, and there is "no place" exactly where there is no placement.
use Rattle.std.proofs.Common.{◌≡◌, ℕ, ◌<◌, true, false, ◌≢◌, ◌⊎◌, refl, inl, inr, arith}
use Rattle.std.proofs.lemmas.Nat.{mul-le}
use Rattle.std.proofs.lemmas.Bool.{cases_Bool, both_ways, or_parts, or_cases, or_left, or_right, or_from, eq-eqb}
use Rattle.plans.proofs.AxisPacking.{packed_along}
use Rattle.plans.proofs.FlatAxes.{axis_orderly, near_inside, sums_within}
use Rattle.plans.proofs.Latest.{latest_later}
use Rattle.plans.proofs.LongestPaths.{unfixed_free, longest_along}
use Rattle.plans.specs.Axes.{Keeps, stuck}
use Rattle.plans.specs.AxisTheorems.{PackedAlong, LongestAlong}
use Rattle.plans.specs.Kinds.{Kind, AtMost, SumLaws, JoinLaws}
use Rattle.plans.specs.LaterOfTwo.{LaterLaws}
use Rattle.plans.specs.Packing.{Task, Pins, no_pins, side_of, axis_of, far_of, span_of}
use Rattle.plans.specs.PackingCalls.{no_place}
use Rattle.plans.specs.PackingTheorems.{Packable, NearPins, packed_placement, PackedPlan, PackedFreely}
use Rattle.plans.specs.Placements.{Placement, KeepsPlan, EndsWithin, InsidePlan, Overlap, clear, NoLater, LeastAmong, LeastPlacement, NoPlacement, ByLongestPaths}
use Rattle.plans.specs.Tables.{table_in}

module _ {L : Type 0} (K : Kind L) (t : Task L) (pins : Pins L) where
  -- along the axis of its graph, an edge keeps two modules clear of each other
  edge_clear :
      (g : ℕ) (e : ℕ → L) → Keeps K (axis_of K t pins g) e → (i j : ℕ) → i < t.plan.size → j < t.plan.size
      → (table_in t.plan i j ≡ g) ⊎ (table_in t.plan j i ≡ g) → clear K t g e i j ≡ true
  edge_clear g e keeps i j h k (inl b) =
      or_left (K.at_most (far_of K t g e i) (e j)) (K.at_most (far_of K t g e j) (e i))
      (keeps.relations i j h k (eq-eqb (table_in t.plan i j) g b))
  edge_clear g e keeps i j h k (inr b) =
      or_right (K.at_most (far_of K t g e i) (e j)) (K.at_most (far_of K t g e j) (e i))
      (keeps.relations j i k h (eq-eqb (table_in t.plan j i) g b))

  -- two modules have an edge of one of the two graphs
  one_edge :
      Packable K t → (i j : ℕ) → i < t.plan.size → j < t.plan.size → i ≢ j
      → ((table_in t.plan i j ≡ 1) ⊎ (table_in t.plan j i ≡ 1)) ⊎ ((table_in t.plan i j ≡ 2) ⊎ (table_in t.plan j i ≡ 2))
  one_edge ok i j h k apart =
      let table = ok.feasible.table in
      let some = table.joined i j h k apart in
      let a = table.small i j in
      let b = table.small j i in
      grind arith

  -- so modules do not overlap where the relations are kept
  keeps_separate :
      Packable K t → (e : Placement L) → KeepsPlan K t pins e → (i j : ℕ) → i < t.plan.size → j < t.plan.size
      → i ≢ j → Overlap K t e i j → ⊥
  keeps_separate ok e keeps i j h k apart overlap =
      let parts = or_parts (clear K t 1 e.across i j) (clear K t 2 e.up i j) overlap in
      elim (one_edge ok i j h k apart) [
        | inl b ↦ both_ways (clear K t 1 e.across i j) parts.0 (edge_clear 1 e.across keeps.across i j h k b)
        | inr b ↦ both_ways (clear K t 2 e.up i j) parts.1 (edge_clear 2 e.up keeps.up i j h k b)
      ]

-- of any family and within any limit, two least placements begin each module at the same near edges
pub one_least :
    {L : Type 0} (K : Kind L) (sum : SumLaws K) (t : Task L) {Kept Within : Placement L → Type 0} (e f : Placement L)
    → LeastAmong K t Kept Within e → LeastAmong K t Kept Within f
    → (i : ℕ) → i < t.plan.size → (e.across i ≡ f.across i) × (e.up i ≡ f.up i)
one_least K sum t e f a b i h =
    let there = a.least f b.keeps b.inside in
    let back = b.least e a.keeps a.inside in (
      sum.antisymmetric (e.across i) (f.across i) (there.near_across i h) (back.near_across i h),
      sum.antisymmetric (e.up i) (f.up i) (there.near_up i h) (back.near_up i h),
    )

module _ {L : Type 0} (K : Kind L) (sum : SumLaws K) (join : JoinLaws K) (t : Task L) (pins : Pins L) where
  module _ (g : ℕ) (e other : ℕ → L) (ends : EndsWithin K t g other) (below : (i : ℕ) → i < t.plan.size → AtMost K (e i) (other i)) where
    -- lower near edges have lower far edges and a lower span
    far_below : (i : ℕ) → i < t.plan.size → AtMost K (far_of K t g e i) (far_of K t g other i)
    far_below i h = sum.ordered (e i) (other i) (side_of K t g i) (ends i h) (below i h)

    span_below : AtMost K (span_of K t g e) (span_of K t g other)
    span_below =
        latest_later K sum join (λ i. true) (far_of K t g e) (far_of K t g other) t.plan.size (λ i h _. far_below i h)

  -- a placement with lower near edges is no later in anything
  no_later :
      (e other : Placement L) → InsidePlan K t other
      → ((i : ℕ) → i < t.plan.size → AtMost K (e.across i) (other.across i))
      → ((i : ℕ) → i < t.plan.size → AtMost K (e.up i) (other.up i)) → NoLater K t e other
  no_later e other inside across up =
      let width = span_below 1 e.across other.across inside.across.ends across in
      let height = span_below 2 e.up other.up inside.up.ends up in
      record {
        near_across = across;
        near_up = up;
        far_across = far_below 1 e.across other.across inside.across.ends across;
        far_up = far_below 2 e.up other.up inside.up.ends up;
        width = width;
        height = height;
        area =
            mul-le (K.reach (span_of K t 1 e.across)) (K.reach (span_of K t 2 e.up))
            (K.reach (span_of K t 1 other.across)) (K.reach (span_of K t 2 other.up))
            (sum.wider (span_of K t 1 e.across) (span_of K t 1 other.across) width)
            (sum.wider (span_of K t 2 e.up) (span_of K t 2 other.up) height);
      }

  module _ (ok : Packable K t) (close : NearPins K pins) where
    along : (g : ℕ) → 0 < g → PackedAlong K (axis_of K t pins g)
    along g edge = packed_along K sum join (axis_of K t pins g) (axis_orderly K sum t ok pins g edge)

    packed_inside : InsidePlan K t (packed_placement K t pins)
    packed_inside =
        record {
          across = near_inside K sum join t ok pins close 1 (omega arith);
          up = near_inside K sum join t ok pins close 2 (omega arith);
        }

    -- where no module is pushed past its pin, the packing is the least placement
    packed_least : no_place K t pins ≡ false → LeastPlacement K t pins (packed_placement K t pins)
    packed_least free =
        let parts = or_parts (stuck K (axis_of K t pins 1)) (stuck K (axis_of K t pins 2)) free in
        let across = (along 1 (omega arith)).least parts.0 in
        let up = (along 2 (omega arith)).least parts.1 in
        let keeps : KeepsPlan K t pins (packed_placement K t pins) = record { across = across.keeps; up = up.keeps } in
        record {
          keeps = keeps;
          inside = packed_inside;
          separate = keeps_separate K t pins ok (packed_placement K t pins) keeps;
          least = λ other kept inside.
              no_later (packed_placement K t pins) other inside
              (across.least other.across kept.across inside.across.steps)
              (up.least other.up kept.up inside.up.steps);
        }

    -- where one is, there is no placement
    packed_none : no_place K t pins ≡ true → NoPlacement K t pins
    packed_none none e keeps inside =
        elim (or_cases (stuck K (axis_of K t pins 1)) (stuck K (axis_of K t pins 2)) none) [
          | inl s ↦ (along 1 (omega arith)).none s e.across keeps.across inside.across.steps
          | inr s ↦ (along 2 (omega arith)).none s e.up keeps.up inside.up.steps
        ]

    -- a packing with pins
    pub packed_plan : PackedPlan K t pins
    packed_plan =
        record {
          within = sums_within K sum join t ok pins close;
          least = packed_least;
          none = packed_none;
          only = λ none.
              elim (cases_Bool (no_place K t pins)) [
                | inl s ↦ s
                | inr s ↦ absurd (none (packed_placement K t pins) (packed_least s).keeps packed_inside)
              ];
        }

-- with no pins none lies too far out
pub no_pins_near : {L : Type 0} (K : Kind L) → NearPins K no_pins
no_pins_near K g i v e = let z : ◌≡◌ {A = ℕ} 0 1 = cc in absurd (omega arith)

-- a packing without pins
module _ {L : Type 0} (K : Kind L) (sum : SumLaws K) (t : Task L) (ok : Packable K t) where
  always_place : no_place K t no_pins ≡ false
  always_place =
      or_from (stuck K (axis_of K t no_pins 1)) (stuck K (axis_of K t no_pins 2))
      (unfixed_free K (axis_of K t no_pins 1) (λ i h. refl)) (unfixed_free K (axis_of K t no_pins 2) (λ i h. refl))

  pub packed_freely : JoinLaws K → PackedFreely K t
  packed_freely join =
      let packed = packed_plan K sum join t no_pins ok (no_pins_near K) in
      record { within = packed.within; least = packed.least always_place }

  -- is by longest paths where the later of two is one of the two
  module _ (later : LaterLaws K) where
    longest : (g : ℕ) → 0 < g → LongestAlong K (axis_of K t no_pins g)
    longest g edge =
        longest_along K (axis_of K t no_pins g) sum later (axis_orderly K sum t ok no_pins g edge) (λ i h. refl)
        (near_inside K sum later.join t ok no_pins (no_pins_near K) g edge).steps

    pub packed_longest : ByLongestPaths K t (packed_placement K t no_pins)
    packed_longest =
        record {
          across = (longest 1 (omega arith)).lengths;
          up = (longest 2 (omega arith)).lengths;
          across_path = (longest 1 (omega arith)).paths;
          up_path = (longest 2 (omega arith)).paths;
        }
