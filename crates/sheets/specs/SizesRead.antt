-- What the stages that read the sizes sheet promise.
use Rattle.std.specs.Prelude.{◌≡◌, ℕ, ◌+◌, List, length, Result}
use Rattle.lengths.specs.declared.plain.Plain.{Plain}
use Rattle.plans.specs.declared.measures.Sides.{Sides}
use Rattle.sheets.specs.Lists.{Front, blank_sides, sides_of, sides_read}
use Rattle.sheets.specs.Promises.{Passed, Reads}
use Rattle.sheets.specs.Reading.{number_at, side_checks, size_line_checks, sizes_checks}
use Rattle.sheets.specs.declared.fault.Finding.{Finding}
use Rattle.sheets.specs.declared.fault.Sheet.TheVariants.{Sizes}
use Rattle.sheets.specs.declared.place.Place.{Place}

module _ (sizes : List ℕ) where
  -- the side in the field that stands some bytes into the line at a place
  abbrev pub ReadsSide : Place → ℕ → Result ℕ Finding → Type 0
  ReadsSide at offset result =
      Reads Sizes sizes (side_checks sizes at.line at.offset offset) (λ n. n ≡ number_at sizes (at.offset + offset) 8) result

  -- the two sides of the line at a place, which is then passed
  abbrev pub ReadsSizeLine : Place → Result (Sides Plain) Finding → Type 0
  ReadsSizeLine at result =
      Reads Sizes sizes (size_line_checks sizes at.line at.offset)
      (λ s.
      (s ≡ sides_of (number_at sizes (at.offset + 0) 8) (number_at sizes (at.offset + 8) 8)) × Passed sizes at.offset 16)
      result

  -- the sides of every line, written over a list of as many
  abbrev pub ReadsSizes : List (Sides Plain) → List (Sides Plain) → Result (Unit {0}) Finding → Type 0
  ReadsSizes before after result =
      Reads Sizes sizes (sizes_checks sizes (length before)) (λ _. Front blank_sides (sides_read sizes) (length before) after)
      result
