-- The lines of the listing: a word and its numbers in columns, ended by byte 10.
use Rattle.std.specs.Prelude.{◌≡◌, ℕ, List, [], ◌∷◌, ◌++◌, OnOk, Result, codes}
use Rattle.listing.specs.Padded.{padded}
use Rattle.listing.specs.declared.column.Column.{Column}
use Rattle.std.specs.List.{flat_map}

-- numbers in their columns
abbrev pub columns_text : List Column → List ℕ
columns_text columns = flat_map (λ c. padded c.0 c.1) columns

-- a word, numbers in their columns, and byte 10
abbrev pub line_text : List ℕ → List Column → List ℕ
line_text word columns = word ++ columns_text columns ++ (10 ∷ [])

-- where nothing fails, the bytes stand behind those that were there
abbrev pub Appends : {E : Type 0} → List ℕ → List ℕ → List ℕ → Result (Unit {0}) E → Type 0
Appends old new bytes result = OnOk result (new ≡ old ++ bytes)

-- What stops the listing: FAIL, number and sheet in four columns, line and column in six.
abbrev pub fail_line : ℕ → ℕ → ℕ → ℕ → List ℕ
fail_line number sheet line column =
    codes "FAIL" ++ padded 4 number ++ padded 4 sheet ++ padded 6 line ++ padded 6 column ++ (10 ∷ [])

-- A word and one number in four columns.
abbrev pub word_line : List ℕ → ℕ → List ℕ
word_line word n = word ++ padded 4 n ++ (10 ∷ [])

-- The chip: width and height in ten columns, area in sixteen.
abbrev pub chip_line : ℕ → ℕ → ℕ → List ℕ
chip_line width height area =
    codes "CHIP" ++ padded 10 width ++ padded 10 height ++ padded 16 area ++ (10 ∷ [])

-- A placed module: its number in four columns, its near edges, left and bottom, in ten.
abbrev pub module_line : ℕ → ℕ → ℕ → List ℕ
module_line i left bottom = padded 4 i ++ padded 10 left ++ padded 10 bottom ++ (10 ∷ [])

-- The borders of the chip: across and upwards, in four columns.
abbrev pub edge_line : ℕ → ℕ → List ℕ
edge_line across up = codes "EDGE" ++ padded 4 across ++ padded 4 up ++ (10 ∷ [])
