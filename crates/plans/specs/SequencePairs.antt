-- The sequence pair: two sequences that determine a floorplan.
use Rattle.std.specs.Prelude.{ℕ, Bool, cond, ◌||◌, List, length, ◌==◌, nat_lt}
use Rattle.plans.specs.Search.{place_of}
use Rattle.plans.specs.Sequences.{ordered_by}
use Rattle.plans.specs.Tables.{Table, Floorplan, codes_of}

-- i is left of j where it stands before j in both sequences, and below j where it stands before j in the
-- packing sequence and after it in the other, for modules that both sequences name
abbrev pub pair_table : List ℕ → List ℕ → Table
pair_table other packing i j =
    cond (nat_lt (place_of packing i) (place_of packing j))
    (cond (nat_lt (place_of other i) (place_of other j)) 1 2)
    0

-- the floorplan of a sequence pair
abbrev pub from_pair : List ℕ → List ℕ → Floorplan
from_pair other packing =
    record { size = length packing; codes = codes_of (length packing) (pair_table other packing); sequence = packing }

-- i stands before j in the other sequence: i is left of j, or j is below i
abbrev pub other_before : Table → ℕ → ℕ → Bool
other_before c i j = c i j == 1 || c j i == 2

-- the other sequence of a table
abbrev pub other_sequence : ℕ → Table → List ℕ
other_sequence m c = ordered_by m (other_before c)
