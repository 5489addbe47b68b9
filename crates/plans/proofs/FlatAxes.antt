-- The axes of a floorplan that is packed: orderly, and every sum within the limit.
use Rattle.std.proofs.Common.{◌≡◌, ℕ, zero, suc, ◌+◌, ◌*◌, ◌<◌, ◌≤◌, Bool, true, cond, ◌&&◌, eqb, leb, get_or, Some, None, Option, unwrap_or, refl, arith}
use Rattle.std.proofs.lemmas.Bool.{cond_both, not-false, and_parts, leb-true, eqb-true, eq-eqb, ne_eqb}
use Rattle.plans.proofs.AxisPacking.{fewer_before, some_not_before}
use Rattle.plans.proofs.Latest.{latest_extent}
use Rattle.plans.specs.Axes.{free_edge, near_within, near_edge}
use Rattle.plans.specs.AxisTheorems.{Orderly}
use Rattle.plans.specs.Kinds.{Kind, SumLaws, JoinLaws, possible_side, side_limit, pin_limit, sum_limit}
use Rattle.plans.specs.Packing.{Task, Pins, no_sides, side_along, side_of, next_of, axis_of, far_of}
use Rattle.plans.specs.PackingTheorems.{Packable, NearPins, SumsWithin, InsideByEnds}
use Rattle.plans.specs.Placements.{EndsWithin, InsideAlong}
use Rattle.plans.specs.Sequences.{count_before}
use Rattle.plans.specs.Tables.{table_in}
use Rattle.plans.specs.declared.measures.Sides.{Sides}

-- what stands before another is one of the modules, so it is enough that each ends within the limit
pub inside_by_ends : {L : Type 0} → InsideByEnds L
inside_by_ends =
    record {
      enough = λ K t g e ends. record { steps = λ j i h k b. ends j h; ends = ends };
      needed = λ K t g e inside. inside.ends;
    }

-- the side along an axis is one of the two
pub either_side :
    {L : Type 0} (P : L → Type 0) (g : ℕ) (rotated : Bool) (s : Sides L) → P s.width → P s.height
    → P (side_along g rotated s)
either_side P g rotated s w h =
    cond_both (eqb g 1) (cond rotated s.height s.width) (cond rotated s.width s.height) P
    (λ _. cond_both rotated s.height s.width P (λ _. h) (λ _. w))
    (λ _. cond_both rotated s.width s.height P (λ _. w) (λ _. h))

module _ {L : Type 0} (K : Kind L) (t : Task L) (ok : Packable K t) where
  -- each side is possible
  pub side_possible : (g i : ℕ) → i < t.plan.size → possible_side K (side_of K t g i) ≡ true
  side_possible g i h =
      let s = get_or t.sides i (no_sides K) in
      let w = possible_side K s.width in
      let u = possible_side K s.height in
      let both = and_parts w u (not-false (w && u) (ok.possible i h)) in
      either_side (λ v. possible_side K v ≡ true) g (t.rotated i) s both.0 both.1

  side_extent : (g i : ℕ) → i < t.plan.size → K.reach (side_of K t g i) ≤ side_limit
  side_extent g i h =
      let r = K.reach (side_of K t g i) in
      leb-true r side_limit (and_parts (leb 1 r) (leb r side_limit) (side_possible g i h)).1

module _ {L : Type 0} (K : Kind L) (sum : SumLaws K) (t : Task L) (ok : Packable K t) (pins : Pins L) (g : ℕ) (edge : 0 < g) where
  -- the relation of a graph is closed and without a cycle, and its steps keep the order
  pub axis_orderly : Orderly K (axis_of K t pins g)
  axis_orderly =
      let c = table_in t.plan in
      let table = ok.feasible.table in
      record {
        closed = λ i j k _ _ _ a b.
            eq-eqb (c i k) g (table.closed g i j k edge (eqb-true (c i j) g a) (eqb-true (c j k) g b));
        acyclic = λ i _. ne_eqb (c i i) g (λ e. omega (arith, table.apart i, e, edge));
        monotone = λ i a b h l m. sum.ordered a b (side_of K t g i) l m;
      }

module _ {L : Type 0} (K : Kind L) (sum : SumLaws K) (join : JoinLaws K) (t : Task L) (ok : Packable K t) (pins : Pins L) (close : NearPins K pins) (g : ℕ) (edge : 0 < g) where
  -- how many modules stand before i along the axis
  abbrev behind : ℕ → ℕ
  behind i = count_before t.plan.size (axis_of K t pins g).before i

  behind_few : (i : ℕ) → i < t.plan.size → behind i < 64
  behind_few i h =
      let a = some_not_before K (axis_of K t pins g) (axis_orderly K sum t ok pins g edge) i h in
      omega (arith, a, ok.feasible.table.few)

  -- an edge is at most a pin, or as far out as the sides before it reach
  fixed_or_free :
      (i : ℕ) (free : L) → K.reach free ≤ pin_limit + behind i * side_limit → (o : Option L) → pins g i ≡ o
      → K.reach (unwrap_or o free) ≤ pin_limit + behind i * side_limit
  fixed_or_free i free h (Some v) o = omega (arith, close g i v o)
  fixed_or_free i free h None o = h

  -- a far edge from a near edge that is as far out as the sides before it reach
  far_extent :
      (e : L) (j : ℕ) → j < t.plan.size → K.reach e ≤ pin_limit + behind j * side_limit
      → K.reach e + K.reach (side_of K t g j) ≤ pin_limit + suc (behind j) * side_limit
  far_extent e j h l = omega (arith, side_extent K t ok g j h)

  far_within :
      (e : L) (j : ℕ) → j < t.plan.size → K.reach e ≤ pin_limit + behind j * side_limit
      → K.reach e + K.reach (side_of K t g j) ≤ sum_limit
  far_within e j h l = omega (arith, far_extent e j h l, behind_few j h)

  rounds_extent :
      (n i : ℕ) → i < t.plan.size
      → K.reach (near_within K (axis_of K t pins g) n i) ≤ pin_limit + behind i * side_limit
  rounds_extent zero i h = omega (arith, sum.empty)
  rounds_extent (suc n) i h =
      fixed_or_free i (free_edge K (axis_of K t pins g) (near_within K (axis_of K t pins g) n) i)
      (latest_extent K sum join (λ j. (axis_of K t pins g).before j i) (λ j. next_of K t g j (near_within K (axis_of K t pins g) n j)) t.plan.size (pin_limit + behind i * side_limit)
      (λ j k b.
      let e = near_within K (axis_of K t pins g) n j in
      let ih = rounds_extent n j k in
      let less = fewer_before K (axis_of K t pins g) (axis_orderly K sum t ok pins g edge) j i k h b in
      rw (sum.sums e (side_of K t g j) (far_within e j k ih)) (omega (arith, far_extent e j k ih, less))))
      (pins g i) refl

  -- every near edge and its side stay within the limit together
  near_ends : EndsWithin K t g (near_edge K (axis_of K t pins g))
  near_ends i h =
      far_within (near_edge K (axis_of K t pins g) i) i h (rounds_extent t.plan.size i h)

  pub near_inside : InsideAlong K t g (near_edge K (axis_of K t pins g))
  near_inside = inside_by_ends.enough K t g (near_edge K (axis_of K t pins g)) near_ends

  -- a near edge lies no further out than the sides before it reach, and the chip within the limit
  pub sums_within : SumsWithin K t pins g
  sums_within =
      let near = near_edge K (axis_of K t pins g) in
      record {
        near = rounds_extent t.plan.size;
        sums = near_ends;
        span =
            latest_extent K sum join (λ i. true) (far_of K t g near) t.plan.size sum_limit
            (λ i h _. rw (sum.sums (near i) (side_of K t g i) (near_ends i h)) (near_ends i h));
      }
