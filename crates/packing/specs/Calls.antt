-- What the three packing calls promise: answer and list are those of the definitions, and what they show.
use Rattle.std.specs.Prelude.{◌≡◌, ℕ, List, Some, None, Ok, Err, Option, Result}
use Rattle.plans.specs.Kinds.{Kind}
use Rattle.plans.specs.Packing.{Task, rotated_task}
use Rattle.plans.specs.PackingAnswers.{ShowsChip, ShowsPaths, TellsPinned}
use Rattle.plans.specs.PackingCalls.{Outcome, after_pack, after_pack_pinned, after_pack_rotated}
use Rattle.plans.specs.declared.measures.Placed.{Placed}
use Rattle.plans.specs.declared.measures.Chip.{Chip}
use Rattle.plans.specs.declared.pack_refusals.PackRefusal.{PackRefusal}
use Rattle.plans.specs.declared.pack_refusals.PinnedRefusal.{PinnedRefusal}
use Rattle.plans.specs.declared.pack_refusals.PinnedRefusal.TheVariants.{NoPlace}
use Rattle.plans.specs.declared.pack_refusals.RotationRefusal.{RotationRefusal}
use Rattle.packing.specs.declared.pin.Pin.{Pin}

-- an answer and a list are those of an outcome
abbrev pub Gives : {L E : Type 0} → Outcome L E → Result (Chip L) E → List (Placed L) → Type 0
Gives outcome answer after = (answer ≡ outcome.answer) × (after ≡ outcome.results)

module _ {L : Type 0} (K : Kind L) (t : Task L) (before : List (Placed L)) where
  -- pack
  abbrev pub Packs : Result (Chip L) PackRefusal → List (Placed L) → Type 0
  Packs answer after = Gives (after_pack K t before) answer after

  -- pack with a module pinned
  abbrev pub PacksPinned : Pin L → Result (Chip L) PinnedRefusal → List (Placed L) → Type 0
  PacksPinned p answer after = Gives (after_pack_pinned K t before p.«module» p.across p.up) answer after

  -- pack with a module rotated once more
  abbrev pub PacksRotated : ℕ → Result (Chip L) RotationRefusal → List (Placed L) → Type 0
  PacksRotated a answer after = Gives (after_pack_rotated K t before a) answer after

  -- an answered chip and the list show the least placement
  abbrev pub ShowsPacking : {E : Type 0} → Result (Chip L) E → List (Placed L) → Type 0
  ShowsPacking answer after = ShowsChip K t before (record { answer = answer; results = after })

  -- with an answered chip the list shows longest paths
  abbrev pub ShowsLongest : {E : Type 0} → Result (Chip L) E → List (Placed L) → Type 0
  ShowsLongest answer after = ShowsPaths K t before (record { answer = answer; results = after })

  -- what an answer with a module pinned tells
  abbrev pub ShowsPinned : Pin L → Result (Chip L) PinnedRefusal → List (Placed L) → Type 0
  ShowsPinned p answer after =
      TellsPinned K t before p.«module» p.across p.up (record { answer = answer; results = after })

  -- a packing that nothing refuses: its chip and its list
  pub record PacksFreely (chip : Chip L) (after : List (Placed L)) : Type 0 where
    pub outcome : Packs (Ok chip) after
    pub least : ShowsPacking {E = PackRefusal} (Ok chip) after
    pub longest : ShowsLongest {E = PackRefusal} (Ok chip) after

  -- with a module pinned: its chip, or no place
  abbrev pub PacksAt : Pin L → Option (Chip L) → List (Placed L) → Type 0
  PacksAt p (Some chip) after = PacksPinned p (Ok chip) after × ShowsPinned p (Ok chip) after
  PacksAt p None after = PacksPinned p (Err NoPlace) after × ShowsPinned p (Err NoPlace) after

-- with a module rotated once more
pub record PacksOnceMore {L : Type 0} (K : Kind L) (t : Task L) (before : List (Placed L)) (a : ℕ) (chip : Chip L) (after : List (Placed L)) : Type 0 where
  pub outcome : PacksRotated K t before a (Ok chip) after
  pub least : ShowsPacking K (rotated_task t a) before {E = RotationRefusal} (Ok chip) after
  pub longest : ShowsLongest K (rotated_task t a) before {E = RotationRefusal} (Ok chip) after
