-- The listing of two sheets: which bytes.
use Rattle.std.specs.Prelude.{ℕ, ◌+◌, List, map, length, Some, None, Option}
use Rattle.listing.specs.ScriptLines.{fault_or, lines_from}
use Rattle.plans.specs.Kinds.{Count}
use Rattle.plans.specs.Model.{State, made_of}
use Rattle.plans.specs.Search.{or_else}
use Rattle.plans.specs.Tables.{Floorplan}
use Rattle.plans.specs.Transposed.{transpose}
use Rattle.plans.specs.declared.measures.Sides.{Sides}
use Rattle.reading.specs.Outcome.{load_fault}
use Rattle.reading.specs.Written.{floorplan_written}
use Rattle.sheets.specs.Checks.{first}
use Rattle.sheets.specs.Lines.{line_start, part}
use Rattle.sheets.specs.Lists.{side_at}
use Rattle.sheets.specs.Reading.{all_checks, modules_of}
use Rattle.sheets.specs.Words.{head_word}
use Rattle.sheets.specs.declared.fault.Finding.{Finding}
use Rattle.sheets.specs.declared.parsed.Head.{Head}
use Rattle.sheets.specs.declared.parsed.Head.TheVariants as heads
use Rattle.sheets.specs.declared.place.Place.{Place}
use Rattle.std.specs.List.{range_with_len}

-- A side with one border.
abbrev pub bordered : ℕ → Count
bordered n = record { long = n; borders = 1 }

-- The sides of the modules, each with one border.
abbrev pub sides_on : List ℕ → ℕ → List (Sides Count)
sides_on sizes m =
    map (λ i. record { width = bordered (side_at sizes i 0); height = bordered (side_at sizes i 8) }) (range_with_len 0 m)

-- The state of the plan at first: over the floorplan as loaded or, under the head SIDE, with its axes exchanged. The
-- checks see to it that there is a head.
abbrev pub start_of : Option Head → Floorplan → State
start_of (Some heads.Plan) p = made_of p
start_of (Some heads.Side) p = made_of (transpose p)
start_of None p = made_of p

-- Where the script starts: behind the head, the rows and the sequence.
abbrev pub script_start : List ℕ → ℕ → Place
script_start plan m = record { offset = line_start plan (m + 2); line = m + 3 }

-- The script's lines of a plan sheet of m modules: there are no more lines than bytes.
abbrev pub script_lines : List ℕ → List ℕ → ℕ → List ℕ
script_lines sizes plan m =
    lines_from plan (sides_on sizes m) (length plan) (script_start plan m)
    (start_of (head_word (part plan 0 4)) (floorplan_written plan))

-- The first fault of the two sheets, or else of the load of what they say; the lists have room for 64 sides, 4,096 codes
-- and 64 places.
abbrev pub sheets_fault : List ℕ → List ℕ → Option Finding
sheets_fault sizes plan = or_else (first (all_checks sizes plan 64 4096 64)) (load_fault plan)

-- The listing of a sizes sheet and a plan sheet: the line of their first fault, or else the lines of the script.
unfoldable pub whole_listing : List ℕ → List ℕ → List ℕ
whole_listing sizes plan = fault_or (sheets_fault sizes plan) (script_lines sizes plan (modules_of plan))
