-- How a sequence and the places of its modules are kept.
use Rattle.std.specs.Prelude.{◌≡◌, ℕ, ◌<◌, Bool, ◌&&◌, List, take, nat_lt, slice_index}
use Rattle.plans.specs.SequencePairs.{from_pair}
use Rattle.plans.specs.Tables.{Floorplan}

-- each of m modules has a place below m, and stands there
abbrev pub AtPlaces : ℕ → List ℕ → List ℕ → Type 0
AtPlaces m modules places = (i : ℕ) → i < m → (slice_index places i < m) × (slice_index modules (slice_index places i) ≡ i)

-- the first m entries of a list, all below m and no two the same
abbrev pub Distinct : ℕ → List ℕ → Type 0
Distinct m entries =
    ((i : ℕ) → i < m → slice_index entries i < m)
    × ((i j : ℕ) → i < m → j < m → slice_index entries i ≡ slice_index entries j → i ≡ j)

-- i stands before j, and both are modules
abbrev pub before_by : ℕ → List ℕ → ℕ → ℕ → Bool
before_by m places i j = nat_lt i m && (nat_lt j m && nat_lt (slice_index places i) (slice_index places j))

-- the floorplan of m modules by two sequences, in the first places of two lists
abbrev pub pair_of : ℕ → List ℕ → List ℕ → Floorplan
pair_of m second first = from_pair (take m second) (take m first)
