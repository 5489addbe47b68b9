-- What the answers of the three packing calls tell: the chip and the list show the least placement.
use Rattle.std.specs.Prelude.{◌≡◌, ℕ, ◌<◌, ◌≤◌, List, length, None, Ok, Err, slice_index_or}
use Rattle.plans.specs.Kinds.{Kind, SumLaws, JoinLaws}
use Rattle.plans.specs.LaterOfTwo.{LaterLaws}
use Rattle.plans.specs.Packing.{Task, Pins, no_pins, one_pin, far_of, chip_of, rotated_task}
use Rattle.plans.specs.PackingCalls.{Outcome, pin_refusal, after_pack, after_pack_pinned, after_pack_rotated}
use Rattle.plans.specs.Placements.{Placement, LeastPlacement, NoPlacement, ByLongestPaths}
use Rattle.plans.specs.Tables.{Feasible}
use Rattle.plans.specs.declared.measures.Placed.{Placed}
use Rattle.plans.specs.declared.measures.Chip.{Chip}
use Rattle.plans.specs.declared.pack_refusals.PinnedRefusal.{PinnedRefusal}
use Rattle.plans.specs.declared.pack_refusals.PinnedRefusal.TheVariants.{NoPlace}

module _ {L : Type 0} (K : Kind L) (t : Task L) where
  -- a list that shows a placement: one record a module, and the places after them as they were
  pub record ShowsPlacement (e : Placement L) (before after : List (Placed L)) : Type 0 where
    pub records :
        (i : ℕ) (d : Placed L) → i < t.plan.size
        → slice_index_or after i d ≡
        record {
          left = e.across i;
          bottom = e.up i;
          right = far_of K t 1 e.across i;
          top = far_of K t 2 e.up i;
        }
    pub others : (i : ℕ) (d : Placed L) → t.plan.size ≤ i → slice_index_or after i d ≡ slice_index_or before i d
    pub long : length after ≡ length before

  -- a list that shows the least placement
  pub record ListsLeast (pins : Pins L) (before after : List (Placed L)) : Type 0 where
    pub placement : Placement L
    pub least : LeastPlacement K t pins placement
    pub list : ShowsPlacement placement before after

  -- a chip and a list that show the least placement
  pub record ShowsLeast (pins : Pins L) (before after : List (Placed L)) (answer : Chip L) : Type 0 where
    pub placement : Placement L
    pub least : LeastPlacement K t pins placement
    pub list : ShowsPlacement placement before after
    pub chip : answer ≡ chip_of K t placement.across placement.up

  -- a list that shows a placement whose near edges are longest paths
  pub record ListsLongest (before after : List (Placed L)) : Type 0 where
    pub placement : Placement L
    pub list : ShowsPlacement placement before after
    pub longest : ByLongestPaths K t placement

  module _ (before : List (Placed L)) where
    -- an answered chip and the list show the least placement
    abbrev pub ShowsChip : {E : Type 0} → Outcome L E → Type 0
    ShowsChip outcome =
        (chip : Chip L) → outcome.answer ≡ Ok chip → ShowsLeast no_pins before outcome.results chip

    -- with an answered chip the list shows longest paths
    abbrev pub ShowsPaths : {E : Type 0} → Outcome L E → Type 0
    ShowsPaths outcome = (chip : Chip L) → outcome.answer ≡ Ok chip → ListsLongest before outcome.results

    -- what an answer with module a pinned tells
    pub record TellsPinned (a : ℕ) (across up : L) (outcome : Outcome L PinnedRefusal) : Type 0 where
      -- an answered chip and the list show the least placement that has the pin
      pub answered :
          (chip : Chip L) → outcome.answer ≡ Ok chip
          → ShowsLeast (one_pin a across up) before outcome.results chip
      -- "no place" is answered only where no other refusal applies and no placement has the pin
      pub nowhere :
          outcome.answer ≡ Err NoPlace
          → (pin_refusal K t before a across up ≡ None) × NoPlacement K t (one_pin a across up)
      -- and wherever that is so
      pub always :
          pin_refusal K t before a across up ≡ None → NoPlacement K t (one_pin a across up)
          → outcome.answer ≡ Err NoPlace
      -- and then the list shows the least placement without the pin
      pub unpinned : outcome.answer ≡ Err NoPlace → ListsLeast no_pins before outcome.results

-- pack: an answered chip is the least placement's
abbrev pub PackAnswers : Type 0 → Type 0
PackAnswers L =
    (K : Kind L) → SumLaws K → JoinLaws K → (t : Task L) → Feasible t.plan → (results : List (Placed L))
    → ShowsChip K t results (after_pack K t results)

-- pack with a module pinned
abbrev pub PinnedAnswers : Type 0 → Type 0
PinnedAnswers L =
    (K : Kind L) → SumLaws K → JoinLaws K → (t : Task L) → Feasible t.plan → (results : List (Placed L))
    → (a : ℕ) (across up : L) → TellsPinned K t results a across up (after_pack_pinned K t results a across up)

-- pack with a module rotated once more: an answered chip is the least placement's with that module so rotated
abbrev pub RotatedAnswers : Type 0 → Type 0
RotatedAnswers L =
    (K : Kind L) → SumLaws K → JoinLaws K → (t : Task L) → Feasible t.plan → (results : List (Placed L)) (a : ℕ)
    → ShowsChip K (rotated_task t a) results (after_pack_rotated K t results a)

-- where any two lengths compare, both show longest paths
pub record PathAnswers (L : Type 0) : Type 0 where
  pub pack :
      (K : Kind L) → SumLaws K → LaterLaws K → (t : Task L) → Feasible t.plan → (results : List (Placed L))
      → ShowsPaths K t results (after_pack K t results)
  pub rotated :
      (K : Kind L) → SumLaws K → LaterLaws K → (t : Task L) → Feasible t.plan → (results : List (Placed L)) (a : ℕ)
      → ShowsPaths K (rotated_task t a) results (after_pack_rotated K t results a)
