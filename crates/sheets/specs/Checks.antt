-- Checks: each says whether it finds a fault and what that fault tells; the first one that does is answered.
use Rattle.std.specs.Prelude.{◌≡◌, ℕ, ◌+◌, ◌<◌, Bool, true, false, cond, List, [], ◌∷◌, length, Some, None, Option, slice_index_or}
use Rattle.std.specs.List.{range_with_len, flat_map}
use Rattle.sheets.specs.declared.fault.Wrong.{Wrong}
use Rattle.sheets.specs.declared.fault.Wrong.TheVariants.{LineLength}
use Rattle.sheets.specs.declared.fault.Sheet.{Sheet}
use Rattle.sheets.specs.declared.fault.Finding.{Finding}

-- one check of the reading
pub record Check : Type 0 where
  pub applies : Bool
  pub tells : Finding

-- a fault of a list or of a whole sheet: line and column are 0, and the field is the sheet's empty start
abbrev pub whole_finding : Wrong → Sheet → Finding
whole_finding w s = record { wrong = w; sheet = s; line = 0; column = 0; from = 0; width = 0 }

-- a line that is missing, surplus or of wrong length: column 1, and the field is the sheet's empty start
abbrev pub line_finding : Sheet → ℕ → Finding
line_finding s n = record { wrong = LineLength; sheet = s; line = n; column = 1; from = 0; width = 0 }

-- a fault of the field that stands o bytes into the line n, which starts at offset start
abbrev pub field_finding : Wrong → Sheet → ℕ → ℕ → ℕ → ℕ → Finding
field_finding w s n start o wide = record { wrong = w; sheet = s; line = n; column = o + 1; from = start + o; width = wide }

-- a check by its two parts
abbrev pub tell_if : Bool → Finding → Check
tell_if b f = record { applies = b; tells = f }

-- the checks for 0, for 1 and so on below n, in turn
abbrev pub each : ℕ → (ℕ → List Check) → List Check
each n f = flat_map f (range_with_len 0 n)

-- what the first check that applies tells
abbrev pub first : List Check → Option Finding
first [] = None
first (c ∷ cs) = cond c.applies (Some c.tells) (first cs)

-- the law of the first: what is answered stands in the list and applies, and nothing before it does
pub record StandsFirst (cs : List Check) (f : Finding) : Type 0 where
  pub place : ℕ
  pub within : place < length cs
  pub found : slice_index_or cs place (tell_if false f) ≡ tell_if true f
  pub none_before : (k : ℕ) → k < place → (slice_index_or cs k (tell_if false f)).applies ≡ false

-- no check of the list applies
abbrev pub NoneApplies : List Check → Type 0
NoneApplies cs = (k : ℕ) (d : Finding) → (slice_index_or cs k (tell_if false d)).applies ≡ false
