-- A place that is a line of its sheet.
use Rattle.std.specs.Prelude.{◌≡◌, ℕ, ◌+◌, List}
use Rattle.sheets.specs.declared.place.Place.{Place}
use Rattle.sheets.specs.Lines.{line_start}

-- line k, counted from 0, whose number counts from 1
pub record IsLine (sheet : List ℕ) (k : ℕ) (at : Place) : Type 0 where
  pub offset : at.offset ≡ line_start sheet k
  pub line : at.line ≡ k + 1
