-- What the caller's lists hold: what was read, and zero in every place behind it.
use Rattle.std.specs.Prelude.{◌≡◌, ℕ, ◌+◌, ◌<◌, ◌≤◌, cond, List, length, nat_lt, slice_index_or}
use Rattle.lengths.specs.declared.plain.Plain.{Plain}
use Rattle.plans.specs.declared.measures.Sides.{Sides}
use Rattle.sheets.specs.Lines.{line_start}
use Rattle.sheets.specs.Reading.{number_at}

-- the first n places hold f, and zero stands in every other place, however long the list is
abbrev pub Filled : {X : Type 0} → X → (ℕ → X) → ℕ → List X → Type 0
Filled nought f n xs = (k : ℕ) → slice_index_or xs k nought ≡ cond (nat_lt k n) (f k) nought

-- the first n places hold f, whatever stands behind them
abbrev pub Front : {X : Type 0} → X → (ℕ → X) → ℕ → List X → Type 0
Front nought f n xs = (k : ℕ) → k < n → slice_index_or xs k nought ≡ f k

-- zero stands in every place
abbrev pub Cleared : {X : Type 0} → X → List X → Type 0
Cleared nought xs = (k : ℕ) → slice_index_or xs k nought ≡ nought

-- a list that has room for n, and zero in every place
pub record Ready {X : Type 0} (n : ℕ) (nought : X) (xs : List X) : Type 0 where
  pub room : n ≤ length xs
  pub clear : Cleared nought xs

-- sides by their numbers
abbrev pub sides_of : ℕ → ℕ → Sides Plain
sides_of w h = record { width = record { 0 = w }; height = record { 0 = h } }

-- no width and no height, as a place holds that was not read
abbrev pub blank_sides : Sides Plain
blank_sides = sides_of 0 0

-- the side that stands o bytes into line k of the sizes sheet
abbrev pub side_at : List ℕ → ℕ → ℕ → ℕ
side_at sizes k o = number_at sizes (line_start sizes k + o) 8

-- the sides on line k of the sizes sheet
abbrev pub sides_read : List ℕ → ℕ → Sides Plain
sides_read sizes k = sides_of (side_at sizes k 0) (side_at sizes k 8)
