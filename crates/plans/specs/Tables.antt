-- Tables of codes, floorplans, and when a floorplan is feasible.
use Rattle.std.specs.Prelude.{◌≡◌, ℕ, ◌+◌, ◌*◌, ◌/◌, ◌%◌, ◌<◌, ◌≤◌, cond, ◌&&◌, ◌≢◌, ◌⊎◌, List, [], map, length, Some, None, Option, nat_lt, slice_index}
use Rattle.std.specs.List.{range_with_len}

-- the code at (i, j): 1 where i is left of j, 2 where i is below j, 0 where neither; so codes 1 are the edges of
-- the horizontal graph and codes 2 those of the vertical graph
abbrev pub Table : Type 0
Table = ℕ → ℕ → ℕ

-- the table of m rows of m codes, in one list row after row; 0 outside it
abbrev pub table_of : ℕ → List ℕ → Table
table_of m codes i j = cond (nat_lt i m && nat_lt j m) (slice_index codes (i * m + j)) 0

-- the list of the codes of a table, row after row
abbrev pub codes_of : ℕ → Table → List ℕ
codes_of m c = map (λ k. c (k / m) (k % m)) (range_with_len 0 (m * m))

-- the number of modules, their codes row after row, and the packing sequence
pub record Floorplan : Type 0 where
  pub size : ℕ
  pub codes : List ℕ
  pub sequence : List ℕ

-- the table of a floorplan
abbrev pub table_in : Floorplan → Table
table_in p = table_of p.size p.codes

-- the module at a place of the sequence, none outside it
abbrev pub module_at : Floorplan → ℕ → Option ℕ
module_at p k = cond (nat_lt k (length p.sequence)) (Some (slice_index p.sequence k)) None

-- the floorplan of codes and a sequence as they are given
abbrev pub given : List ℕ → List ℕ → Floorplan
given codes s = record { size = length s; codes = codes; sequence = s }

-- the floorplan of no modules, which a fresh representation means
abbrev pub no_modules : Floorplan
no_modules = record { size = 0; codes = []; sequence = [] }

-- a table of m modules, at most a limit of them, whose relations are closure graphs, one for each code up to
-- the greatest
pub record ClosedTable (limit greatest m : ℕ) (c : Table) : Type 0 where
  -- at most so many modules
  pub few : m ≤ limit
  -- no code above the greatest
  pub small : (i j : ℕ) → c i j ≤ greatest
  -- edges join modules
  pub within : (i j : ℕ) → 0 < c i j → (i < m) × (j < m)
  -- no module is related to itself
  pub apart : (i : ℕ) → c i i ≡ 0
  -- each two modules have an edge
  pub joined : (i j : ℕ) → i < m → j < m → i ≢ j → (0 < c i j) ⊎ (0 < c j i)
  -- and no second one
  pub oneway : (i j : ℕ) → 0 < c i j → c j i ≡ 0
  -- each graph has with (i, j) and (j, k) also (i, k)
  pub closed : (g i j k : ℕ) → 0 < g → c i j ≡ g → c j k ≡ g → c i k ≡ g

-- a table of at most 64 modules whose relations are two closure graphs
abbrev pub FeasibleTable : ℕ → Table → Type 0
FeasibleTable m c = ClosedTable 64 2 m c

-- a list that names each number below m once, and each after all that are before it
pub record Sequenced (m : ℕ) (Before : ℕ → ℕ → Type 0) (s : List ℕ) : Type 0 where
  -- one place for each number
  pub long : length s ≡ m
  -- a number below m at each place
  pub modules : (k : ℕ) → k < m → slice_index s k < m
  -- and no number at two
  pub once : (k l : ℕ) → k < m → l < m → slice_index s k ≡ slice_index s l → k ≡ l
  -- what is before stands earlier
  pub forward : (k l : ℕ) → k < m → l < m → Before (slice_index s k) (slice_index s l) → k < l

-- a sequence that names each module once and runs along every edge
abbrev pub Fits : ℕ → Table → List ℕ → Type 0
Fits m c s = Sequenced m (λ i j. 0 < c i j) s

-- a floorplan that is a pair of closure graphs with their packing sequence
pub record Feasible (p : Floorplan) : Type 0 where
  -- one code for each ordered pair of modules
  pub full : length p.codes ≡ p.size * p.size
  pub table : FeasibleTable p.size (table_in p)
  pub fits : Fits p.size (table_in p) p.sequence
