-- Words and letters of the plan sheet.
use Rattle.std.specs.Prelude.{ℕ, Bool, cond, ◌&&◌, List, Some, None, Option, ◌==◌, slice_index}
use Rattle.sheets.specs.declared.parsed.Head.{Head}
use Rattle.sheets.specs.declared.parsed.Head.TheVariants as heads

-- the first four bytes are these
abbrev pub spells : List ℕ → ℕ → ℕ → ℕ → ℕ → Bool
spells w a b c d = slice_index w 0 == a && (slice_index w 1 == b && (slice_index w 2 == c && slice_index w 3 == d))

-- the word of the head: PLAN or SIDE
abbrev pub head_word : List ℕ → Option Head
head_word w = cond (spells w 80 76 65 78) (Some heads.Plan) (cond (spells w 83 73 68 69) (Some heads.Side) None)

-- the code of a letter: '.' is 0, 'h' is 1, 'v' is 2
abbrev pub letter_code : ℕ → Option ℕ
letter_code b = cond (b == 46) (Some 0) (cond (b == 104) (Some 1) (cond (b == 118) (Some 2) None))
