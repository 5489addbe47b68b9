-- When each refusal of a change and of a packing applies, and the laws that the first is answered.
use Rattle.std.specs.Prelude.{◌≡◌, ℕ, ◌<◌, ◌≤◌, ◌≢◌, ◌⊎◌, List, length, slice_index_or}
use Rattle.plans.specs.Changes.{change_refusal}
use Rattle.plans.specs.FirstRefusals.{FirstRefusal}
use Rattle.plans.specs.Kinds.{Kind, side_limit, pin_limit}
use Rattle.plans.specs.Numbers.{number_of_change, told_by_change, told_by_pack, told_by_pinned, told_by_rotation}
use Rattle.plans.specs.Packing.{Task, no_sides}
use Rattle.plans.specs.PackingCalls.{pack_refusal, pin_refusal, rotation_refusal}
use Rattle.plans.specs.Tables.{Table, Floorplan, table_in}
use Rattle.plans.specs.declared.change.Change.{Change}
use Rattle.plans.specs.declared.change.Change.TheVariants.{Rotate, Swap, Reverse, MoveEdge}
use Rattle.plans.specs.declared.measures.Sides.{Sides}
use Rattle.plans.specs.declared.measures.Placed.{Placed}
use Rattle.plans.specs.declared.refusals.ChangeRefusal.{ChangeRefusal}
use Rattle.plans.specs.declared.refusals.ChangeRefusal.TheVariants.{NoModule, SameModule, NoEdge, NoReductionEdge}
use Rattle.plans.specs.declared.pack_refusals.PackRefusal.{PackRefusal}
use Rattle.plans.specs.declared.pack_refusals.PackRefusal.TheVariants.{WrongSides, ShortResults, WrongSide}
use Rattle.plans.specs.declared.pack_refusals.PinnedRefusal.{PinnedRefusal}
use Rattle.plans.specs.declared.pack_refusals.PinnedRefusal.TheVariants as pinned
use Rattle.plans.specs.declared.pack_refusals.RotationRefusal.{RotationRefusal}
use Rattle.plans.specs.declared.pack_refusals.RotationRefusal.TheVariants as rotation

-- when each refusal of two modules to exchange applies
abbrev pub TwoApplies : ℕ → ℕ → ℕ → ChangeRefusal → Type 0
TwoApplies m a b NoModule = (m ≤ a) ⊎ (m ≤ b)
TwoApplies m a b SameModule = a ≡ b
TwoApplies m a b NoEdge = ⊥
TwoApplies m a b NoReductionEdge = ⊥

-- when each refusal of a reduction edge applies
abbrev pub EdgeApplies : ℕ → Table → ℕ → ℕ → ChangeRefusal → Type 0
EdgeApplies m c a b NoModule = (m ≤ a) ⊎ (m ≤ b)
EdgeApplies m c a b SameModule = a ≡ b
EdgeApplies m c a b NoEdge = c a b ≡ 0
EdgeApplies m c a b NoReductionEdge = (k : ℕ) × (k < m) × (c a k ≡ c a b) × (c k b ≡ c a b)

-- when the refusal of a rotation applies
abbrev pub RotateApplies : ℕ → ℕ → ChangeRefusal → Type 0
RotateApplies m a NoModule = m ≤ a
RotateApplies m a SameModule = ⊥
RotateApplies m a NoEdge = ⊥
RotateApplies m a NoReductionEdge = ⊥

-- when each refusal of a change applies
abbrev pub ChangeApplies : Floorplan → Change → ChangeRefusal → Type 0
ChangeApplies p (Rotate a) = RotateApplies p.size a
ChangeApplies p (Swap a b) = TwoApplies p.size a b
ChangeApplies p (Reverse a b) = EdgeApplies p.size (table_in p) a b
ChangeApplies p (MoveEdge a b) = EdgeApplies p.size (table_in p) a b

-- a change answers its first refusal
abbrev pub ChangeLaw : Type 0
ChangeLaw =
    (p : Floorplan) (c : Change) → FirstRefusal number_of_change told_by_change (ChangeApplies p c) (change_refusal p c)

-- the order in which the refusals of a packing come, apart from their numbers
abbrev pub rank_of_pack : PackRefusal → ℕ
rank_of_pack WrongSides = 0
rank_of_pack ShortResults = 1
rank_of_pack (WrongSide i) = 2

-- with a module pinned
abbrev pub rank_of_pinned : PinnedRefusal → ℕ
rank_of_pinned (pinned.Packing e) = rank_of_pack e
rank_of_pinned pinned.NoModule = 3
rank_of_pinned pinned.FarPin = 4
rank_of_pinned pinned.NoPlace = 5

-- with a module rotated once more
abbrev pub rank_of_rotation : RotationRefusal → ℕ
rank_of_rotation (rotation.Packing e) = rank_of_pack e
rank_of_rotation rotation.NoModule = 3

module _ {L : Type 0} (K : Kind L) where
  -- a length that a side may have
  abbrev pub Possible : L → Type 0
  Possible s = (1 ≤ K.reach s) × (K.reach s ≤ side_limit)

  -- when each refusal of a packing applies
  abbrev pub PackApplies : Task L → List (Placed L) → PackRefusal → Type 0
  PackApplies t results WrongSides = length t.sides ≢ t.plan.size
  PackApplies t results ShortResults = length results < t.plan.size
  PackApplies t results (WrongSide i) =
      let s : Sides L = slice_index_or t.sides i (no_sides K) in
      (i < t.plan.size) × (Possible s.width × Possible s.height → ⊥)

  -- with a module pinned; that there is no place is told by the law of the packing
  abbrev pub PinnedApplies : Task L → List (Placed L) → ℕ → L → L → PinnedRefusal → Type 0
  PinnedApplies t results a across up (pinned.Packing e) = PackApplies t results e
  PinnedApplies t results a across up pinned.NoModule = t.plan.size ≤ a
  PinnedApplies t results a across up pinned.FarPin = (pin_limit < K.reach across) ⊎ (pin_limit < K.reach up)
  PinnedApplies t results a across up pinned.NoPlace = ⊥

  -- with a module rotated once more
  abbrev pub RotationApplies : Task L → List (Placed L) → ℕ → RotationRefusal → Type 0
  RotationApplies t results a (rotation.Packing e) = PackApplies t results e
  RotationApplies t results a rotation.NoModule = t.plan.size ≤ a

-- each packing call answers its first refusal, but for "no place"
pub record PackLaw (L : Type 0) : Type 0 where
  pub pack :
      (K : Kind L) (t : Task L) (results : List (Placed L))
      → FirstRefusal rank_of_pack told_by_pack (PackApplies K t results) (pack_refusal K t results)
  pub pinned :
      (K : Kind L) (t : Task L) (results : List (Placed L)) (a : ℕ) (across up : L)
      → FirstRefusal rank_of_pinned told_by_pinned (PinnedApplies K t results a across up) (pin_refusal K t results a across up)
  pub rotated :
      (K : Kind L) (t : Task L) (results : List (Placed L)) (a : ℕ)
      → FirstRefusal rank_of_rotation told_by_rotation (RotationApplies K t results a) (rotation_refusal K t results a)
