-- What a well-written plan sheet gives to load: a code for each letter of its rows, and its sequence.
use Rattle.std.specs.Prelude.{ℕ, ◌*◌, List, map, Option}
use Rattle.std.specs.List.{range_with_len}
use Rattle.plans.specs.Tables.{Floorplan, given}
use Rattle.plans.specs.Tests.{load_refusal}
use Rattle.plans.specs.declared.refusals.LoadRefusal.{LoadRefusal}
use Rattle.sheets.specs.Reading.{modules_of, code_read, place_read}

-- the codes of its letters, row after row
abbrev pub codes_written : List ℕ → List ℕ
codes_written plan = map (code_read plan (modules_of plan)) (range_with_len 0 (modules_of plan * modules_of plan))

-- the numbers in the fields of its sequence
abbrev pub sequence_written : List ℕ → List ℕ
sequence_written plan = map (place_read plan (modules_of plan)) (range_with_len 0 (modules_of plan))

-- the first refusal of a load of them
abbrev pub refusal_written : List ℕ → Option LoadRefusal
refusal_written plan = load_refusal (codes_written plan) (sequence_written plan)

-- the floorplan that they make
abbrev pub floorplan_written : List ℕ → Floorplan
floorplan_written plan = given (codes_written plan) (sequence_written plan)
