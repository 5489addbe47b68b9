-- The number of each refusal, and what each tells.
use Rattle.std.specs.Prelude.{ℕ, List, [], ◌∷◌}
use Rattle.plans.specs.declared.refusals.LoadRefusal.{LoadRefusal}
use Rattle.plans.specs.declared.refusals.LoadRefusal.TheVariants.{WrongShape, WrongCode, SelfRelated, NotOneEdge, NotClosed, WrongPlace, Backwards}
use Rattle.plans.specs.declared.refusals.ChangeRefusal.{ChangeRefusal}
use Rattle.plans.specs.declared.refusals.ChangeRefusal.TheVariants.{NoModule, SameModule, NoEdge, NoReductionEdge}
use Rattle.plans.specs.declared.refusals.PlanRefusal.{PlanRefusal}
use Rattle.plans.specs.declared.refusals.PlanRefusal.TheVariants.{TrialOpen, Refused}
use Rattle.plans.specs.declared.refusals.TrialRefusal.{TrialRefusal}
use Rattle.plans.specs.declared.refusals.TrialRefusal.TheVariants.{NoTrial}
use Rattle.plans.specs.declared.pack_refusals.PackRefusal.{PackRefusal}
use Rattle.plans.specs.declared.pack_refusals.PackRefusal.TheVariants.{WrongSides, ShortResults, WrongSide}
use Rattle.plans.specs.declared.pack_refusals.PinnedRefusal.{PinnedRefusal}
use Rattle.plans.specs.declared.pack_refusals.PinnedRefusal.TheVariants as pinned
use Rattle.plans.specs.declared.pack_refusals.RotationRefusal.{RotationRefusal}
use Rattle.plans.specs.declared.pack_refusals.RotationRefusal.TheVariants as rotation
use Rattle.plans.specs.declared.pack_refusals.LengthRefusal.{LengthRefusal}
use Rattle.plans.specs.declared.pack_refusals.LengthRefusal.TheVariants.{WrongCount}

-- 10 to 16: a representation refuses a load
abbrev pub number_of_load : LoadRefusal → ℕ
number_of_load WrongShape = 10
number_of_load (WrongCode i j) = 11
number_of_load (SelfRelated i j) = 12
number_of_load (NotOneEdge i j) = 13
number_of_load (NotClosed i j) = 14
number_of_load (WrongPlace k) = 15
number_of_load (Backwards i j) = 16

-- 21 to 24: a representation refuses a change
abbrev pub number_of_change : ChangeRefusal → ℕ
number_of_change NoModule = 21
number_of_change SameModule = 22
number_of_change NoEdge = 23
number_of_change NoReductionEdge = 24

-- 20: a plan refuses a load or a change since a trial is open, and else as its representation does
abbrev pub number_of_plan : {E : Type 0} → (E → ℕ) → PlanRefusal E → ℕ
number_of_plan number TrialOpen = 20
number_of_plan number (Refused e) = number e

-- 30: there is no trial to end
abbrev pub number_of_trial : TrialRefusal → ℕ
number_of_trial NoTrial = 30

-- 40 to 45: a packing is refused
abbrev pub number_of_pack : PackRefusal → ℕ
number_of_pack WrongSides = 40
number_of_pack ShortResults = 41
number_of_pack (WrongSide i) = 42

-- the same with a module pinned
abbrev pub number_of_pinned : PinnedRefusal → ℕ
number_of_pinned (pinned.Packing e) = number_of_pack e
number_of_pinned pinned.NoModule = 43
number_of_pinned pinned.FarPin = 44
number_of_pinned pinned.NoPlace = 45

-- the same with a module rotated once more
abbrev pub number_of_rotation : RotationRefusal → ℕ
number_of_rotation (rotation.Packing e) = number_of_pack e
number_of_rotation rotation.NoModule = 43

-- 50: a counted length can't be made
abbrev pub number_of_length : LengthRefusal → ℕ
number_of_length WrongCount = 50

-- what each refusal of a load tells: a pair of modules, or a place of the sequence
abbrev pub told_by_load : LoadRefusal → List ℕ
told_by_load WrongShape = []
told_by_load (WrongCode i j) = i ∷ j ∷ []
told_by_load (SelfRelated i j) = i ∷ j ∷ []
told_by_load (NotOneEdge i j) = i ∷ j ∷ []
told_by_load (NotClosed i j) = i ∷ j ∷ []
told_by_load (WrongPlace k) = k ∷ []
told_by_load (Backwards i j) = i ∷ j ∷ []

-- a refused change tells nothing more
abbrev pub told_by_change : ChangeRefusal → List ℕ
told_by_change e = []

-- what each refusal of a packing tells: the module with a side that is not possible
abbrev pub told_by_pack : PackRefusal → List ℕ
told_by_pack WrongSides = []
told_by_pack ShortResults = []
told_by_pack (WrongSide i) = i ∷ []

-- the same with a module pinned
abbrev pub told_by_pinned : PinnedRefusal → List ℕ
told_by_pinned (pinned.Packing e) = told_by_pack e
told_by_pinned pinned.NoModule = []
told_by_pinned pinned.FarPin = []
told_by_pinned pinned.NoPlace = []

-- the same with a module rotated once more
abbrev pub told_by_rotation : RotationRefusal → List ℕ
told_by_rotation (rotation.Packing e) = told_by_pack e
told_by_rotation rotation.NoModule = []

-- what a plan's refusals tell: those of its representation
abbrev pub told_by_plan : {E : Type 0} → (E → List ℕ) → PlanRefusal E → List ℕ
told_by_plan told TrialOpen = []
told_by_plan told (Refused e) = told e

-- no trial to end tells nothing more
abbrev pub told_by_trial : TrialRefusal → List ℕ
told_by_trial e = []
