-- How the packer goes along the packing sequence: free corners, near corners, and how far the list is filled.
use Rattle.std.specs.Prelude.{◌≡◌, ℕ, ◌<◌, ◌≤◌, Bool, cond, not, ◌||◌, ◌≢◌, List, length, get_or, take, ◌==◌, nat_eq, slice_index, slice_index_or, slice_set}
use Rattle.std.specs.Option.{unwrap_or}
use Rattle.plans.specs.Axes.{pushed}
use Rattle.plans.specs.Kinds.{Kind}
use Rattle.plans.specs.LaterOfTwo.{latest_onto}
use Rattle.plans.specs.Packing.{Task, Pins, at_origin, axis_of, packed_module, packed_list}
use Rattle.plans.specs.PackingCalls.{no_place}
use Rattle.plans.specs.PackingTheorems.{Packable, NearPins}
use Rattle.plans.specs.Tables.{Floorplan, table_in}
use Rattle.plans.specs.declared.measures.Placed.{Placed}
use Rattle.plans.specs.declared.measures.Sides.{Sides}
use Rattle.packing.specs.Corners.{next_after}
use Rattle.packing.specs.declared.pin.Corner.{Corner}

-- the module at place k of the sequence
abbrev pub at_place : Floorplan → ℕ → ℕ
at_place p k = slice_index p.sequence k

module _ {L : Type 0} (K : Kind L) where
  -- a corner moved past a placed module that has an edge of this code to it
  abbrev pub corner_past : Corner L → ℕ → Placed L → Corner L
  corner_past corner code placed =
      record {
        across = cond (code == 1) (K.later corner.across (next_after placed).across) corner.across;
        up = cond (code == 2) (K.later corner.up (next_after placed).up) corner.up;
      }

  -- where module i is free to begin after those at the places before k that stand before it, by the records of a list
  abbrev pub free_corner : Floorplan → List (Placed L) → ℕ → ℕ → Corner L
  free_corner p results k i =
      record {
        across =
            latest_onto K (λ j. nat_eq (table_in p j i) 1) (λ j. (next_after (get_or results j (at_origin K))).across) K.origin (take k p.sequence);
        up = latest_onto K (λ j. nat_eq (table_in p j i) 2) (λ j. (next_after (get_or results j (at_origin K))).up) K.origin (take k p.sequence);
      }

  -- where a module begins: at its pin, or else where it is free to
  abbrev pub near_corner : Pins L → ℕ → Corner L → Corner L
  near_corner pins i free =
      record { across = unwrap_or (pins 1 i) free.across; up = unwrap_or (pins 2 i) free.up }

  -- the record of a module that begins at a corner, with its sides
  abbrev pub record_at : Corner L → Sides L → Placed L
  record_at near side =
      record {
        left = near.across;
        bottom = near.up;
        right = K.plus near.across side.width;
        top = K.plus near.up side.height;
      }

  module _ (t : Task L) (pins : Pins L) where
    -- what can be packed into a list of this length
    pub record ReadyToPack (long : ℕ) : Type 0 where
      pub packable : Packable K t
      pub close : NearPins K pins
      pub room : t.plan.size ≤ long

    -- the modules at the places before k have their records
    abbrev pub FilledTo : ℕ → List (Placed L) → Type 0
    FilledTo k results =
        (l : ℕ) (d : Placed L) → l < k → slice_index_or results (at_place t.plan l) d ≡ packed_module K t pins (at_place t.plan l)

    -- they have, and all other places of the list are as before
    pub record Reached (k : ℕ) (before after : List (Placed L)) : Type 0 where
      pub filled : FilledTo k after
      pub others :
          (i : ℕ) (d : Placed L) → ((l : ℕ) → l < k → at_place t.plan l ≢ i) → slice_index_or after i d ≡ slice_index_or before i d
      pub long : length after ≡ length before

    -- a module is pushed past its pin, along one axis or the other
    abbrev pub pushed_at : ℕ → Bool
    pushed_at i = pushed K (axis_of K t pins 1) i || pushed K (axis_of K t pins 2) i

    -- place k is the next to be filled
    pub record NextPlace (k : ℕ) (results : List (Placed L)) : Type 0 where
      pub ready : ReadyToPack (length results)
      pub within : k < t.plan.size
      pub filled : FilledTo k results

    -- the record of the module at place k is written, and whether it is not pushed past its pin is answered
    pub record PlacesOne (k : ℕ) (before after : List (Placed L)) (answer : Bool) : Type 0 where
      pub list : after ≡ slice_set before (at_place t.plan k) (packed_module K t pins (at_place t.plan k))
      pub fits : answer ≡ not (pushed_at (at_place t.plan k))

    -- the record of every module is written, and whether there is a place is answered
    pub record PlacesAll (before after : List (Placed L)) (answer : Bool) : Type 0 where
      pub list : after ≡ packed_list K t pins before
      pub fits : answer ≡ not (no_place K t pins)
