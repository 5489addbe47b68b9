-- One module is placed: its free and near edges, its record and its fit are those of the packing.
use Rattle.std.proofs.Common.{◌≡◌, ℕ, ◌+◌, ◌<◌, ◌≤◌, Bool, true, false, not, ◌&&◌, ◌||◌, eqb, List, get_or, take, set, Some, None, Option, unwrap_or, sym, refl, ap, ◌∙◌, arith}
use Rattle.std.proofs.lemmas.List.{get_or-take, length-take}
use Rattle.std.proofs.lemmas.Bool.Decides.{nat_tests}
use Rattle.plans.proofs.FlatAxes.{sums_within}
use Rattle.plans.proofs.KindLaws.{join_laws}
use Rattle.plans.proofs.PublishedLoad.{fits_names}
use Rattle.plans.proofs.SequenceWalk.{free_along, near_along}
use Rattle.plans.specs.Axes.{free_edge, pushed}
use Rattle.plans.specs.Kinds.{Kind, Lawful, JoinLaws, sum_limit}
use Rattle.plans.specs.LaterOfTwo.{latest_onto}
use Rattle.plans.specs.Packing.{Task, Pins, at_origin, side_of, next_of, axis_of, packed_edge, packed_module}
use Rattle.plans.specs.Tables.{Floorplan, Feasible, table_in, module_at}
use Rattle.plans.specs.declared.measures.Placed.{Placed}
use Rattle.plans.specs.declared.measures.Sides.{Sides}
use Rattle.packing.proofs.Corners.{onto_same}
use Rattle.packing.specs.Steps.{ReadyToPack, FilledTo, record_at, at_place, free_corner, near_corner, pushed_at, PlacesOne}
use Rattle.packing.specs.Corners.{next_after, corner_at_most}
use Rattle.packing.specs.declared.pin.Corner.{Corner}

-- the module that a representation tells at a place stands there
pub module_stands : (p : Floorplan) (k i : ℕ) (r : Option ℕ) → r ≡ module_at p k → r ≡ Some i → at_place p k ≡ i
module_stands p k i r e f = grind (arith, nat_tests)

-- it is one of the modules
pub module_inside :
    (p : Floorplan) → Feasible p → (k i : ℕ) (r : Option ℕ) → k < p.size → r ≡ module_at p k → r ≡ Some i → i < p.size
module_inside p feasible k i r h e f = rw (module_stands p k i r e f) at (feasible.fits.modules k h)

-- a test twice denied
not_not : (b : Bool) → b ≡ not (not b)
not_not true = refl
not_not false = refl

module _ {L : Type 0} (K : Kind L) (law : Lawful K) (t : Task L) (pins : Pins L) (n : ℕ) (ready : ReadyToPack K t pins n) where
  join : JoinLaws K
  join = join_laws K law

  -- each module has a place
  pub module_places : (j : ℕ) → j < t.plan.size → (l : ℕ) × (l < t.plan.size) × (get_or t.plan.sequence l 0 ≡ j)
  module_places = fits_names t.plan.size (table_in t.plan) t.plan.sequence ready.packable.feasible.fits

  module _ (results : List (Placed L)) (k i : ℕ) (h : k < t.plan.size) (stands : at_place t.plan k ≡ i) (filled : FilledTo K t pins k results) where
    inside : i < t.plan.size
    inside = rw stands at (ready.packable.feasible.fits.modules k h)

    -- along the axis of a graph the near edge and the side stay within the limit
    ends_packed :
        (g : ℕ) → 0 < g → (near side : L) → near ≡ packed_edge K t pins g i → side ≡ side_of K t g i
        → K.reach near + K.reach side ≤ sum_limit
    ends_packed g edge near side a b =
        rw (a, b) ((sums_within K law.sum join t ready.packable pins ready.close g edge).sums i inside)

    -- and where a record tells where the next module may begin
    module _ (g : ℕ) (edge : 0 < g) (next : Placed L → L) (told : (j : ℕ) → next (packed_module K t pins j) ≡ next_of K t g j (packed_edge K t pins g j)) where
      -- the free edge by the records in the list
      abbrev free : L
      free =
          latest_onto K (λ j. eqb (table_in t.plan j i) g) (λ j. next (get_or results j (at_origin K))) K.origin
          (take k t.plan.sequence)

      -- is that of the packing
      free_packed : free ≡ free_edge K (axis_of K t pins g) (packed_edge K t pins g) i
      free_packed =
          let s = t.plan.sequence in
          let long = length-take k s in
          onto_same K (λ j. eqb (table_in t.plan j i) g) (λ j. next (get_or results j (at_origin K)))
          (λ j. next_of K t g j (packed_edge K t pins g j)) K.origin (take k s)
          (λ l b.
          let less : l < k = omega (arith, long) in
          rw (get_or-take k s l 0 less) (ap next (filled l (at_origin K) less) ∙ told (at_place t.plan l)))
          ∙ sym (free_along K law.sum join t ready.packable pins g edge module_places (packed_edge K t pins g) k i h stands)

      -- so is the near edge
      near_packed : unwrap_or (pins g i) free ≡ packed_edge K t pins g i
      near_packed =
          ap (λ v. unwrap_or (pins g i) v)
          (free_packed ∙ free_along K law.sum join t ready.packable pins g edge module_places (packed_edge K t pins g) k i h stands)
          ∙ sym (near_along K law.sum join t ready.packable pins g edge module_places k i h stands)

      -- the module is not pushed past its pin exactly where its free edge is at most its near edge
      fits_by : (o : Option L) → pins g i ≡ o → K.at_most free (unwrap_or o free) ≡ not (pushed K (axis_of K t pins g) i)
      fits_by (Some v) e =
          rw e (ap (λ w. K.at_most w v) free_packed ∙ not_not (K.at_most (free_edge K (axis_of K t pins g) (packed_edge K t pins g) i) v))
      fits_by None e = rw e (law.sum.reflexive free)

      fits_packed : K.at_most free (unwrap_or (pins g i) free) ≡ not (pushed K (axis_of K t pins g) i)
      fits_packed = fits_by (pins g i) refl

    module _ (free near : Corner L) (freed : free ≡ free_corner K t.plan results k i) (begins : near ≡ near_corner K pins i free) where
      across_packed : near.across ≡ packed_edge K t pins 1 i
      across_packed =
          ap (λ (e : Corner L). e.across) (begins ∙ ap (near_corner K pins i) freed)
          ∙ near_packed 1 (omega arith) (λ r. (next_after r).across) (λ j. refl)

      up_packed : near.up ≡ packed_edge K t pins 2 i
      up_packed =
          ap (λ (e : Corner L). e.up) (begins ∙ ap (near_corner K pins i) freed)
          ∙ near_packed 2 (omega arith) (λ r. (next_after r).up) (λ j. refl)

      module _ (side : Sides L) (lies : side ≡ record { width = side_of K t 1 i; height = side_of K t 2 i }) where
        pub across_ends : K.reach near.across + K.reach side.width ≤ sum_limit
        across_ends =
            ends_packed 1 (omega arith) near.across side.width across_packed (ap (λ (s : Sides L). s.width) lies)

        pub up_ends : K.reach near.up + K.reach side.height ≤ sum_limit
        up_ends = ends_packed 2 (omega arith) near.up side.height up_packed (ap (λ (s : Sides L). s.height) lies)

        -- the record that is written
        pub record_packed : (placed : Placed L) → placed ≡ record_at K near side → placed ≡ packed_module K t pins i
        record_packed placed told =
            told ∙ (λ x. record_at K (record { across = across_packed x; up = up_packed x }) (lies x))

      -- whether the module fits
      pub corner_fits : corner_at_most K free near ≡ not (pushed_at K t pins i)
      corner_fits =
          let a : K.at_most free.across near.across ≡ not (pushed K (axis_of K t pins 1) i) =
          rw (begins, freed) (fits_packed 1 (omega arith) (λ r. (next_after r).across) (λ j. refl)) in
          let b : K.at_most free.up near.up ≡ not (pushed K (axis_of K t pins 2) i) =
          rw (begins, freed) (fits_packed 2 (omega arith) (λ r. (next_after r).up) (λ j. refl)) in
          rw (a, b) (neither (pushed K (axis_of K t pins 1) i) (pushed K (axis_of K t pins 2) i))
        where
          neither : (p q : Bool) → (not p && not q) ≡ not (p || q)
          neither true q = refl
          neither false q = refl

    -- the list after the record of the module that stands at the place is written
    pub module_placed :
        (placed : Placed L) (answer : Bool) → placed ≡ packed_module K t pins i → answer ≡ not (pushed_at K t pins i)
        → PlacesOne K t pins k results (set results i placed) answer
    module_placed placed answer new fits =
        let back = sym stands in
        record {
          list = λ x. set results (back x) ((new ∙ ap (packed_module K t pins) back) x);
          fits = fits ∙ ap (λ j. not (pushed_at K t pins j)) back;
        }
