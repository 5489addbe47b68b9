-- Lines of a sheet: each ends in byte 10.
use Rattle.std.specs.Prelude.{ℕ, zero, suc, ◌+◌, Bool, cond, ◌&&◌, List, [], ◌∷◌, length, take, drop, ◌==◌, nat_lt, slice_index}

-- how many bytes stand before the first byte 10, or how many there are where there is none
abbrev pub line_width : List ℕ → ℕ
line_width [] = 0
line_width (b ∷ bs) = cond (b == 10) 0 (1 + line_width bs)

-- the width of the line that starts at offset s
abbrev pub width_at : List ℕ → ℕ → ℕ
width_at sheet s = line_width (drop s sheet)

-- where the line after it starts: behind its byte 10
abbrev pub next_line : List ℕ → ℕ → ℕ
next_line sheet s = s + width_at sheet s + 1

-- where line k starts, counted from 0
abbrev pub line_start : List ℕ → ℕ → ℕ
line_start sheet zero = 0
line_start sheet (suc k) = next_line sheet (line_start sheet k)

-- the sheet goes on at s: it has a byte there
abbrev pub goes_on : List ℕ → ℕ → Bool
goes_on sheet s = nat_lt s (length sheet)

-- the line at s is there, has w bytes, and ends in byte 10
abbrev pub has_width : List ℕ → ℕ → ℕ → Bool
has_width sheet s w = width_at sheet s == w && slice_index sheet (s + w) == 10

-- the part of a sheet at offset s, w bytes long
abbrev pub part : List ℕ → ℕ → ℕ → List ℕ
part sheet s w = take w (drop s sheet)
