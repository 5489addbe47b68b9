-- A number in columns: right-aligned, with blanks before it.
use Rattle.std.specs.Prelude.{ℕ, ◌-◌, List, ◌++◌, length, replicate}
use Rattle.listing.specs.Decimal.{in_decimal}

-- k blanks, byte 32.
abbrev pub blanks : ℕ → List ℕ
blanks k = replicate k 32

-- The digits of n in w columns, with blanks before them; more digits than columns are written whole.
abbrev pub padded : ℕ → ℕ → List ℕ
padded w n = blanks (w - length (in_decimal n)) ++ in_decimal n
