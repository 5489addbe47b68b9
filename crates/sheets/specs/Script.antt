-- Script lines: their words, their fields, and what reading one answers.
use Rattle.std.specs.Prelude.{◌≡◌, ℕ, ◌+◌, ◌-◌, ◌*◌, ◌^◌, min, cond, not, ◌&&◌, List, [], ◌∷◌, ◌++◌, is_some, Some, None, Ok, MatchBool, Option, Result, MatchResult, nat_lt}
use Rattle.std.specs.Borrow.{Bor}
use Rattle.plans.specs.declared.change.Change.TheVariants.{Rotate, Swap, Reverse, MoveEdge}
use Rattle.sheets.specs.declared.fault.Fault.{Fault}
use Rattle.sheets.specs.declared.fault.Finding.{Finding}
use Rattle.sheets.specs.declared.fault.Sheet.TheVariants.{Plan}
use Rattle.sheets.specs.declared.fault.Wrong.TheVariants.{UnknownWord, BadField}
use Rattle.sheets.specs.declared.place.Place.{Place}
use Rattle.sheets.specs.declared.command.Command.{Command}
use Rattle.sheets.specs.declared.command.Command.TheVariants as commands
use Rattle.sheets.specs.declared.command.ScriptLine.{ScriptLine}
use Rattle.sheets.specs.declared.command.Word.{Word}
use Rattle.sheets.specs.declared.command.Word.TheVariants as words
use Rattle.sheets.specs.Checks.{Check, first, tell_if, line_finding, field_finding, StandsFirst, NoneApplies}
use Rattle.sheets.specs.Lines.{width_at, next_line, goes_on, has_width, part}
use Rattle.sheets.specs.Parsing.{Tells}
use Rattle.sheets.specs.Reading.{bad_at, number_at}
use Rattle.sheets.specs.Words.{spells}

-- the word of a script line: TURN, SWAP, FLIP, MOVE, KEEP, UNDO or PACK
abbrev pub script_word : List ℕ → Option Word
script_word w =
    cond (spells w 84 85 82 78) (Some words.Turn)
    (cond (spells w 83 87 65 80) (Some words.Swap)
    (cond (spells w 70 76 73 80) (Some words.Flip)
    (cond (spells w 77 79 86 69) (Some words.Move)
    (cond (spells w 75 69 69 80) (Some words.Keep)
    (cond (spells w 85 78 68 79) (Some words.Undo)
    (cond (spells w 80 65 67 75) (Some words.Pack) None))))))

-- how many fields stand behind a word
abbrev pub fields_behind : Word → ℕ
fields_behind words.Turn = 1
fields_behind words.Swap = 2
fields_behind words.Flip = 2
fields_behind words.Move = 2
fields_behind words.Keep = 0
fields_behind words.Undo = 0
fields_behind words.Pack = 0

-- the command of a word with two numbers, of which it takes as many as it has fields
abbrev pub command_with : Word → ℕ → ℕ → Command
command_with words.Turn a b = commands.Change (Rotate a)
command_with words.Swap a b = commands.Change (Swap a b)
command_with words.Flip a b = commands.Change (Reverse a b)
command_with words.Move a b = commands.Change (MoveEdge a b)
command_with words.Keep a b = commands.Keep
command_with words.Undo a b = commands.Undo
command_with words.Pack a b = commands.Pack

-- the word that is found; the checks see to it that there is one, so that which one stands for none says nothing
abbrev pub word_or : Option Word → Word
word_or (Some w) = w
word_or None = words.Keep

-- the word of the line at s
abbrev pub word_at : List ℕ → ℕ → Word
word_at plan s = word_or (script_word (part plan s 4))

-- field j of the line at s, from 0: if the word has so many, it stands behind the word, four bytes wide
abbrev pub operand_checks : List ℕ → ℕ → ℕ → ℕ → ℕ → List Check
operand_checks plan n s count j = tell_if (nat_lt j count && bad_at plan (s + (4 + 4 * j)) 4) (field_finding BadField Plan n s (4 + 4 * j) 4) ∷ []

-- the number in field j of the line at s, and 0 where the word has no such field
abbrev pub operand_at : List ℕ → ℕ → ℕ → ℕ → ℕ
operand_at plan s count j = cond (nat_lt j count) (number_at plan (s + (4 + 4 * j)) 4) 0

-- the checks of line n, which starts at s: four bytes at least, a known word, the word's length, and its fields
abbrev pub script_checks : List ℕ → ℕ → ℕ → List Check
script_checks plan n s =
    tell_if (nat_lt (width_at plan s) 4) (line_finding Plan n)
    ∷ tell_if (not (is_some (script_word (part plan s 4)))) (field_finding UnknownWord Plan n s 0 4)
    ∷ tell_if (not (has_width plan s (4 + 4 * fields_behind (word_at plan s)))) (line_finding Plan n)
    ∷ (operand_checks plan n s (fields_behind (word_at plan s)) 0 ++ operand_checks plan n s (fields_behind (word_at plan s)) 1)

-- the command of the line at a place, and the place of the next line; a line's number stays at the largest that there is
abbrev pub line_read : List ℕ → Place → ScriptLine
line_read plan at = record {
  command = command_with (word_at plan at.offset) (operand_at plan at.offset (fields_behind (word_at plan at.offset)) 0) (operand_at plan at.offset (fields_behind (word_at plan at.offset)) 1);
  next = record { offset = next_line plan at.offset; line = min (at.line + 1) (2 ^ 64 - 1) };
}

-- the answer by the first fault of the line
abbrev pub ByFirst : Bor (List ℕ) → Place → Option Finding → Result (Option ScriptLine) Fault → Type 0
ByFirst plan at None r = r ≡ Ok (Some (line_read plan.now at))
ByFirst plan at (Some f) r = MatchResult r (λ _. ⊥) (λ e. Tells plan f e)

-- the answer: no line where the sheet has ended, and else the command of the line or its first fault
abbrev pub ReadsLine : Bor (List ℕ) → Place → Result (Option ScriptLine) Fault → Type 0
ReadsLine plan at r =
    MatchBool (goes_on plan.now at.offset) (ByFirst plan at (first (script_checks plan.now at.line at.offset)) r) (r ≡ Ok None)

-- the law of the first: a fault stands at some place of the line's checks, applies, and none before it does; of a line that is read none applies
abbrev pub FirstOfLine : Bor (List ℕ) → Place → Result (Option ScriptLine) Fault → Type 0
FirstOfLine plan at r =
    MatchBool
    (goes_on plan.now at.offset)
    (MatchResult
    r
    (λ _. NoneApplies (script_checks plan.now at.line at.offset))
    (λ e. (f : Finding) × StandsFirst (script_checks plan.now at.line at.offset) f × Tells plan f e))
    (Unit {0})
