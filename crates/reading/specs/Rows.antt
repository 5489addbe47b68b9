-- Where the rows and the sequence of a well-written plan sheet stand, and which refusals tell a part of them.
use Rattle.std.specs.Prelude.{◌≡◌, ℕ, ◌+◌, ◌*◌, ◌<◌, ◌≤◌, List, length}
use Rattle.plans.specs.declared.refusals.LoadRefusal.{LoadRefusal}
use Rattle.plans.specs.declared.refusals.LoadRefusal.TheVariants.{WrongShape, WrongCode, SelfRelated, NotOneEdge, NotClosed, WrongPlace, Backwards}
use Rattle.sheets.specs.Lines.{line_start}

-- where row i of m letters starts: behind a head of 8 bytes and i rows, each with its byte 10
abbrev pub row_start : ℕ → ℕ → ℕ
row_start m i = 9 + i * (m + 1)

-- the rows and, behind them, the sequence start there and lie in the sheet
pub record WellPlaced (plan : List ℕ) (m : ℕ) : Type 0 where
  pub few : m ≤ 64
  pub starts : (i : ℕ) → i ≤ m → line_start plan (i + 1) ≡ row_start m i
  pub letters : (i : ℕ) → i < m → row_start m i + m < length plan
  pub fields : row_start m m + 4 * m < length plan

-- a refusal that tells a letter or a field that is there
abbrev pub ToldInPlan : ℕ → LoadRefusal → Type 0
ToldInPlan m WrongShape = Unit {0}
ToldInPlan m (WrongCode i j) = (i < m) × (j < m)
ToldInPlan m (SelfRelated i j) = (i < m) × (j < m)
ToldInPlan m (NotOneEdge i j) = (i < m) × (j < m)
ToldInPlan m (NotClosed i j) = (i < m) × (j < m)
ToldInPlan m (WrongPlace k) = k < m
ToldInPlan m (Backwards i j) = (i < m) × (j < m)
