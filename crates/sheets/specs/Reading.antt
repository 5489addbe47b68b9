-- Reading the two sheets: which line, which field, in which order, and what the lists hold then.
use Rattle.std.specs.Prelude.{ℕ, ◌+◌, ◌*◌, ◌/◌, ◌%◌, Bool, not, ◌&&◌, ◌||◌, List, [], ◌∷◌, ◌++◌, length, is_some, nat_le, nat_lt, slice_index}
use Rattle.std.specs.Option.{unwrap_or}
use Rattle.sheets.specs.declared.fault.Wrong.TheVariants.{ListTooShort, UnknownWord, BadField, OutOfRange, SheetTooLong}
use Rattle.sheets.specs.declared.fault.Sheet.TheVariants.{Sizes, Plan}
use Rattle.sheets.specs.Checks.{Check, tell_if, each, whole_finding, line_finding, field_finding}
use Rattle.sheets.specs.Fields.{field_number}
use Rattle.sheets.specs.Lines.{line_start, goes_on, has_width, part}
use Rattle.sheets.specs.Words.{head_word, letter_code}

-- the number that the field at offset s holds, w bytes wide
abbrev pub number_at : List ℕ → ℕ → ℕ → ℕ
number_at sheet s w = unwrap_or (field_number (part sheet s w)) 0

-- the field at offset s is badly written
abbrev pub bad_at : List ℕ → ℕ → ℕ → Bool
bad_at sheet s w = not (is_some (field_number (part sheet s w)))

-- how many modules the head names: four columns behind its word
abbrev pub modules_of : List ℕ → ℕ
modules_of plan = number_at plan 4 4

-- the room of the caller's lists: 64 sides, 4,096 codes and 64 places, whatever the sheets hold
abbrev pub list_checks : ℕ → ℕ → ℕ → List Check
list_checks sideRoom codeRoom placeRoom =
    tell_if (nat_lt sideRoom 64) (whole_finding ListTooShort Sizes)
    ∷ tell_if (nat_lt codeRoom 4096 || nat_lt placeRoom 64) (whole_finding ListTooShort Plan)
    ∷ []

-- the bytes of each sheet: 32,768 at most
abbrev pub length_checks : List ℕ → List ℕ → List Check
length_checks sizes plan =
    tell_if (nat_lt 32768 (length sizes)) (whole_finding SheetTooLong Sizes)
    ∷ tell_if (nat_lt 32768 (length plan)) (whole_finding SheetTooLong Plan)
    ∷ []

-- the head, the first line of the plan sheet: its length, its word, its number, at most 64
abbrev pub head_checks : List ℕ → List Check
head_checks plan =
    tell_if (not (has_width plan 0 8)) (line_finding Plan 1)
    ∷ tell_if (not (is_some (head_word (part plan 0 4)))) (field_finding UnknownWord Plan 1 0 0 4)
    ∷ tell_if (bad_at plan 4 4) (field_finding BadField Plan 1 0 4 4)
    ∷ tell_if (nat_lt 64 (modules_of plan)) (field_finding OutOfRange Plan 1 0 4 4)
    ∷ []

-- a side that a module can have
abbrev pub is_side : ℕ → Bool
is_side n = nat_le 1 n && nat_le n 100000

-- one side, o bytes into the line n, which starts at s: a number, 1 to 100,000
abbrev pub side_checks : List ℕ → ℕ → ℕ → ℕ → List Check
side_checks sizes n s o =
    tell_if (bad_at sizes (s + o) 8) (field_finding BadField Sizes n s o 8)
    ∷ tell_if (not (is_side (number_at sizes (s + o) 8))) (field_finding OutOfRange Sizes n s o 8)
    ∷ []

-- a line of two sides, which starts at s and is line n: its length, its width, its height
abbrev pub size_line_checks : List ℕ → ℕ → ℕ → List Check
size_line_checks sizes n s =
    tell_if (not (has_width sizes s 16)) (line_finding Sizes n)
    ∷ (side_checks sizes n s 0 ++ side_checks sizes n s 8)

-- the line of module i
abbrev pub size_checks : List ℕ → ℕ → List Check
size_checks sizes i = size_line_checks sizes (i + 1) (line_start sizes i)

-- the sizes sheet: a line for each module, and no byte behind them
abbrev pub sizes_checks : List ℕ → ℕ → List Check
sizes_checks sizes m =
    each m (size_checks sizes)
    ++ (tell_if (goes_on sizes (line_start sizes m)) (line_finding Sizes (m + 1)) ∷ [])

-- the letter j of a row
abbrev pub letter_checks : List ℕ → ℕ → ℕ → ℕ → List Check
letter_checks plan n s j = tell_if (not (is_some (letter_code (slice_index plan (s + j))))) (field_finding UnknownWord Plan n s j 1) ∷ []

-- a row of m letters, which starts at s and is line n: its length, and each letter
abbrev pub row_checks : List ℕ → ℕ → ℕ → ℕ → List Check
row_checks plan m n s =
    tell_if (not (has_width plan s m)) (line_finding Plan n)
    ∷ each m (letter_checks plan n s)

-- the row of module i
abbrev pub module_row_checks : List ℕ → ℕ → ℕ → List Check
module_row_checks plan m i = row_checks plan m (i + 2) (line_start plan (i + 1))

-- the rows, from the second line of the plan sheet on
abbrev pub rows_checks : List ℕ → ℕ → List Check
rows_checks plan m = each m (module_row_checks plan m)

-- the field j of the sequence
abbrev pub place_checks : List ℕ → ℕ → ℕ → ℕ → List Check
place_checks plan n s j = tell_if (bad_at plan (s + 4 * j) 4) (field_finding BadField Plan n s (4 * j) 4) ∷ []

-- the packing sequence, a line of m fields of four, which starts at s and is line n: its length, and each field
abbrev pub sequence_checks : List ℕ → ℕ → ℕ → ℕ → List Check
sequence_checks plan m n s =
    tell_if (not (has_width plan s (4 * m))) (line_finding Plan n)
    ∷ each m (place_checks plan n s)

-- the line of the sequence, behind the rows
abbrev pub last_checks : List ℕ → ℕ → List Check
last_checks plan m = sequence_checks plan m (m + 2) (line_start plan (m + 1))

-- the checks of the sheets: their bytes, then the head, the sizes, the rows and the sequence
abbrev pub sheet_checks : List ℕ → List ℕ → List Check
sheet_checks sizes plan =
    length_checks sizes plan
    ++ (head_checks plan
    ++ (sizes_checks sizes (modules_of plan)
    ++ (rows_checks plan (modules_of plan)
    ++ last_checks plan (modules_of plan))))

-- every check of the reading, in its order
abbrev pub all_checks : List ℕ → List ℕ → ℕ → ℕ → ℕ → List Check
all_checks sizes plan sideRoom codeRoom placeRoom = list_checks sideRoom codeRoom placeRoom ++ sheet_checks sizes plan

-- the code of the letter at offset s
abbrev pub code_at : List ℕ → ℕ → ℕ
code_at plan s = unwrap_or (letter_code (slice_index plan s)) 0

-- the code that the sheet has at row k / m, letter k % m
abbrev pub code_read : List ℕ → ℕ → ℕ → ℕ
code_read plan m k = code_at plan (line_start plan (k / m + 1) + k % m)

-- the module at place k of the sequence
abbrev pub place_read : List ℕ → ℕ → ℕ → ℕ
place_read plan m k = number_at plan (line_start plan (m + 1) + 4 * k) 4
