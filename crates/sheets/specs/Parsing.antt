-- What parsing the two sheets answers and leaves in the caller's lists.
use Rattle.std.specs.Prelude.{◌≡◌, ℕ, ◌+◌, ◌*◌, ◌≤◌, true, false, List, length, Some, None, Ok, Err, MatchBool, Option, Result}
use Rattle.std.specs.Borrow.{Bor}
use Rattle.lengths.specs.declared.plain.Plain.{Plain}
use Rattle.plans.specs.declared.measures.Sides.{Sides}
use Rattle.sheets.specs.declared.fault.Wrong.{Wrong}
use Rattle.sheets.specs.declared.fault.Sheet.{Sheet}
use Rattle.sheets.specs.declared.fault.Sheet.TheVariants.{Sizes, Plan}
use Rattle.sheets.specs.declared.fault.Finding.{Finding}
use Rattle.sheets.specs.declared.fault.Fault.{Fault}
use Rattle.sheets.specs.declared.parsed.Parsed.{Parsed}
use Rattle.sheets.specs.Checks.{Check, first, StandsFirst, NoneApplies}
use Rattle.sheets.specs.Faults.{clears}
use Rattle.sheets.specs.Lines.{line_start, part}
use Rattle.sheets.specs.Lists.{Filled, Cleared, blank_sides, sides_read}
use Rattle.sheets.specs.Promises.{Passes}
use Rattle.sheets.specs.Reading.{modules_of, code_read, place_read, list_checks, length_checks, sheet_checks, all_checks}
use Rattle.sheets.specs.Words.{head_word}

-- of two things, that of the sheet that is named
abbrev pub of_sheet : {X : Type 0} → X → X → Sheet → X
of_sheet a b Sizes = a
of_sheet a b Plan = b

-- a fault that tells a finding, with its field lent from the sheet: the same bytes at the same place
pub record Tells (sheet : Bor (List ℕ)) (f : Finding) (e : Fault) : Type 0 where
  pub wrong : e.wrong ≡ f.wrong
  pub named : e.sheet ≡ f.sheet
  pub line : e.line ≡ f.line
  pub column : e.column ≡ f.column
  pub bytes : e.field.now ≡ part sheet.now f.from f.width
  pub place : e.field.ref_ptr ≡ (sheet.ref_ptr.0, sheet.ref_ptr.1 + f.from)

-- what a done reading answers: the head, the number of modules, and where the script starts, with its line
pub record Parses (plan : List ℕ) (p : Parsed) : Type 0 where
  pub head : head_word (part plan 0 4) ≡ Some p.head
  pub modules : p.modules ≡ modules_of plan
  pub offset : p.script.offset ≡ line_start plan (modules_of plan + 2)
  pub line : p.script.line ≡ modules_of plan + 3

-- the contents of the three lists
pub record Held : Type 0 where
  pub sides : List (Sides Plain)
  pub codes : List ℕ
  pub places : List ℕ

-- what three lists of the caller's hold
abbrev pub held : List (Sides Plain) → List ℕ → List ℕ → Held
held s c p = record { sides = s; codes = c; places = p }

-- the checks of two sheets and lists of this room
abbrev pub checks_for : List ℕ → List ℕ → Held → List Check
checks_for sizes plan h = all_checks sizes plan (length h.sides) (length h.codes) (length h.places)

-- what a done reading leaves in the lists: what was read, and zero behind it
pub record Read (sizes plan : List ℕ) (h : Held) : Type 0 where
  pub sides_there : Filled blank_sides (sides_read sizes) (modules_of plan) h.sides
  pub codes_read : Filled 0 (code_read plan (modules_of plan)) (modules_of plan * modules_of plan) h.codes
  pub places_read : Filled 0 (place_read plan (modules_of plan)) (modules_of plan) h.places

-- what a fault leaves in a list: zero in every place, or what was there
abbrev pub Left : {X : Type 0} → X → Wrong → List X → List X → Type 0
Left nought w before after = MatchBool (clears w) (Cleared nought after) (after ≡ before)

-- the answer by the first fault: that fault, or what was read
abbrev pub AnswersBy : Bor (List ℕ) → Bor (List ℕ) → Option Finding → Result Parsed Fault → Type 0
AnswersBy sizes plan None (Ok p) = Parses plan.now p
AnswersBy sizes plan None (Err e) = ⊥
AnswersBy sizes plan (Some f) (Ok p) = ⊥
AnswersBy sizes plan (Some f) (Err e) = Tells (of_sheet sizes plan f.sheet) f e

-- the answer, by the first fault of these sheets and lists
abbrev pub Answers : Bor (List ℕ) → Bor (List ℕ) → Held → Result Parsed Fault → Type 0
Answers sizes plan h r = AnswersBy sizes plan (first (checks_for sizes.now plan.now h)) r

-- the lists by the first fault: what was read, or what the fault leaves
abbrev pub LeavesBy : List ℕ → List ℕ → Option Finding → Held → Held → Type 0
LeavesBy sizes plan None before after = Read sizes plan after
LeavesBy sizes plan (Some f) before after =
    Left blank_sides f.wrong before.sides after.sides
    × Left 0 f.wrong before.codes after.codes
    × Left 0 f.wrong before.places after.places

-- what is left in the lists, by the first fault of these sheets and lists
abbrev pub Leaves : List ℕ → List ℕ → Held → Held → Type 0
Leaves sizes plan before after = LeavesBy sizes plan (first (checks_for sizes plan before)) before after

-- the law of the first: a fault stands at some place of the checks, applies, and none before it does; of a done reading none applies
abbrev pub FirstOf : Bor (List ℕ) → Bor (List ℕ) → Held → Result Parsed Fault → Type 0
FirstOf sizes plan h (Ok p) = NoneApplies (checks_for sizes.now plan.now h)
FirstOf sizes plan h (Err e) = (f : Finding) × StandsFirst (checks_for sizes.now plan.now h) f × Tells (of_sheet sizes plan f.sheet) f e

-- what is found in two sheets and lists of this room: the first fault, whose field lies in its sheet, or what was read
abbrev pub Finds : List ℕ → List ℕ → Held → Result Parsed Finding → Type 0
Finds sizes plan h (Ok p) = (first (checks_for sizes plan h) ≡ None) × Parses plan p
Finds sizes plan h (Err f) = (first (checks_for sizes plan h) ≡ Some f) × (f.from + f.width ≤ length (of_sheet sizes plan f.sheet))

-- reading into the caller's lists: what is found, and what is left in the lists
pub record ReadsLists (sizes plan : List ℕ) (before after : Held) (r : Result Parsed Finding) : Type 0 where
  pub found : Finds sizes plan before r
  pub lists : Leaves sizes plan before after

-- the room of the lists: the first fault, which does not clear them, or none
abbrev pub ReadsRoom : ℕ → ℕ → ℕ → Result (Unit {0}) Finding → Type 0
ReadsRoom sides codes places (Ok x) = first (list_checks sides codes places) ≡ None
ReadsRoom sides codes places (Err f) = (first (list_checks sides codes places) ≡ Some f) × (f.from + f.width ≡ 0) × (clears f.wrong ≡ false)

-- a fault of the two sheets: the first of these checks that applies; its field lies in its sheet, and it clears the lists
abbrev pub Found : List ℕ → List ℕ → List Check → Finding → Type 0
Found sizes plan cs f =
    (first cs ≡ Some f) × (f.from + f.width ≤ length (of_sheet sizes plan f.sheet)) × (clears f.wrong ≡ true)

-- the bytes of the two sheets: the first fault, or none
abbrev pub ReadsLengths : List ℕ → List ℕ → Result (Unit {0}) Finding → Type 0
ReadsLengths sizes plan (Ok x) = Passes (length_checks sizes plan)
ReadsLengths sizes plan (Err f) = Found sizes plan (length_checks sizes plan) f

-- reading into lists of zeros: the first fault, or what was read
abbrev pub ReadsAll : List ℕ → List ℕ → Held → Result Parsed Finding → Type 0
ReadsAll sizes plan h (Ok p) = (first (sheet_checks sizes plan) ≡ None) × Parses plan p × Read sizes plan h
ReadsAll sizes plan h (Err f) = Found sizes plan (sheet_checks sizes plan) f
