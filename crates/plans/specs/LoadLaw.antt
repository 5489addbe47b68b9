-- When each refusal of a load applies, and the law that the first is answered.
use Rattle.std.specs.Prelude.{◌≡◌, ℕ, ◌*◌, ◌<◌, ◌≤◌, ◌≢◌, ◌⊎◌, List, length, None, slice_index}
use Rattle.plans.specs.FirstRefusals.{FirstRefusal}
use Rattle.plans.specs.Numbers.{number_of_load, told_by_load}
use Rattle.plans.specs.Published.{Published}
use Rattle.plans.specs.Search.{place_of}
use Rattle.plans.specs.Tables.{Table, Floorplan, Feasible, table_of, given}
use Rattle.plans.specs.Tests.{table_refusal, load_refusal}
use Rattle.plans.specs.declared.refusals.LoadRefusal.{LoadRefusal}
use Rattle.plans.specs.declared.refusals.LoadRefusal.TheVariants.{WrongShape, WrongCode, SelfRelated, NotOneEdge, NotClosed, WrongPlace, Backwards}

-- both modules of a pair are in the plan, and the fact holds
abbrev pub InPlan : ℕ → ℕ → ℕ → Type 0 → Type 0
InPlan m i j Fact = (i < m) × (j < m) × Fact

-- when each refusal of a table of m modules applies, at most limit of them, with codes up to the greatest
abbrev pub TableApplies : (limit greatest m : ℕ) → List ℕ → LoadRefusal → Type 0
TableApplies limit greatest m codes WrongShape = (limit < m) ⊎ (length codes ≢ m * m)
TableApplies limit greatest m codes (WrongCode i j) = InPlan m i j (greatest < table_of m codes i j)
TableApplies limit greatest m codes (SelfRelated i j) = InPlan m i j ((i ≡ j) × (0 < table_of m codes i j))
TableApplies limit greatest m codes (NotOneEdge i j) =
    InPlan m i j ((i < j)
    × (((0 < table_of m codes i j) × (0 < table_of m codes j i))
    ⊎ ((table_of m codes i j ≡ 0) × (table_of m codes j i ≡ 0))))
TableApplies limit greatest m codes (NotClosed i k) =
    InPlan m i k ((j : ℕ) × (j < m) × (0 < table_of m codes i j)
    × (table_of m codes j k ≡ table_of m codes i j)
    × (table_of m codes i k ≢ table_of m codes i j))
TableApplies limit greatest m codes (WrongPlace k) = ⊥
TableApplies limit greatest m codes (Backwards i j) = ⊥

-- when each refusal of a sequence applies
abbrev pub SequenceApplies : Table → List ℕ → LoadRefusal → Type 0
SequenceApplies c s WrongShape = ⊥
SequenceApplies c s (WrongCode i j) = ⊥
SequenceApplies c s (SelfRelated i j) = ⊥
SequenceApplies c s (NotOneEdge i j) = ⊥
SequenceApplies c s (NotClosed i k) = ⊥
SequenceApplies c s (WrongPlace k) =
    (k < length s) × ((length s ≤ slice_index s k) ⊎ ((l : ℕ) × (l < k) × (slice_index s l ≡ slice_index s k)))
SequenceApplies c s (Backwards i j) = InPlan (length s) i j ((0 < c i j) × (place_of s j < place_of s i))

-- a refusal of a load applies to its table or to its sequence
abbrev pub LoadApplies : List ℕ → List ℕ → LoadRefusal → Type 0
LoadApplies codes s e = TableApplies 64 2 (length s) codes e ⊎ SequenceApplies (table_of (length s) codes) s e

-- the law of the load: the first refusal is answered; none is exactly where the published definition admits the
-- codes with the sequence; and feasible says the same as the published definition
pub record LoadLaw : Type 0 where
  -- of a table alone, for every limit and every greatest code
  pub table :
      (limit greatest m : ℕ) (codes : List ℕ)
      → FirstRefusal number_of_load told_by_load (TableApplies limit greatest m codes) (table_refusal limit greatest m codes)
  pub first :
      (codes s : List ℕ) → FirstRefusal number_of_load told_by_load (LoadApplies codes s) (load_refusal codes s)
  pub accepted : (codes s : List ℕ) → load_refusal codes s ≡ None → Published (given codes s)
  pub admitted : (codes s : List ℕ) → Published (given codes s) → load_refusal codes s ≡ None
  pub published : (p : Floorplan) → Feasible p → Published p
  pub feasible : (p : Floorplan) → Published p → Feasible p
