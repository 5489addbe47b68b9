-- The published definition of a pair of transitive closure graphs with a packing sequence, in its own words.
use Rattle.std.specs.Prelude.{◌≡◌, ℕ, ◌+◌, ◌*◌, ◌<◌, ◌≤◌, cond, ◌≢◌, List, [], ◌∷◌, length, ◌==◌, slice_index}
use Rattle.plans.specs.Tables.{Table, Floorplan, table_in}

-- an edge of graph g
abbrev pub Edge : Table → ℕ → ℕ → ℕ → Type 0
Edge c g i j = c i j ≡ g

-- one or more edges of one graph, each beginning where the one before it ends
pub data Path (c : Table) (g : ℕ) : ℕ → ℕ → Type 0 where
  edge : {i j : ℕ} → Edge c g i j → Path c g i j
  then : {i j k : ℕ} → Edge c g i j → Path c g j k → Path c g i k

-- no path returns to its start
abbrev pub Acyclic : Table → ℕ → Type 0
Acyclic c g = (i : ℕ) → Path c g i i → ⊥

-- the transitive closure has an edge wherever there is a path; the graph equals it when it has each of these
-- edges too, since each edge is a path
abbrev pub OwnClosure : Table → ℕ → Type 0
OwnClosure c g = (i j : ℕ) → Path c g i j → Edge c g i j

-- how many edges two modules have, in both graphs and both directions
abbrev pub edges_between : Table → ℕ → ℕ → ℕ
edges_between c i j = one (c i j) 1 + one (c i j) 2 + one (c j i) 1 + one (c j i) 2
  where
    one : ℕ → ℕ → ℕ
    one code g = cond (code == g) 1 0

-- how often a module stands in a sequence
abbrev pub times_in : List ℕ → ℕ → ℕ
times_in [] i = 0
times_in (x ∷ xs) i = cond (x == i) 1 0 + times_in xs i

-- i stands somewhere before j
abbrev pub Precedes : List ℕ → ℕ → ℕ → Type 0
Precedes s i j = (k : ℕ) × (l : ℕ) × (k < l) × (l < length s) × (slice_index s k ≡ i) × (slice_index s l ≡ j)

-- what the definition admits, of at most 64 modules with one code 0, 1 or 2 for each ordered pair
pub record Published (p : Floorplan) : Type 0 where
  pub few : p.size ≤ 64
  pub full : length p.codes ≡ p.size * p.size
  pub codes : (i j : ℕ) → table_in p i j ≤ 2
  -- both graphs are acyclic
  pub acyclic : (g : ℕ) → 0 < g → Acyclic (table_in p) g
  -- each two modules are connected by exactly one edge, of one graph
  pub connected : (i j : ℕ) → i < p.size → j < p.size → i ≢ j → edges_between (table_in p) i j ≡ 1
  -- the transitive closure of each graph is the graph itself
  pub closure : (g : ℕ) → 0 < g → OwnClosure (table_in p) g
  -- the sequence lists modules, each once
  pub long : length p.sequence ≡ p.size
  pub modules : (k : ℕ) → k < p.size → slice_index p.sequence k < p.size
  pub once : (i : ℕ) → i < p.size → times_in p.sequence i ≡ 1
  -- and is a topological order of both graphs
  pub topological : (i j : ℕ) → 0 < table_in p i j → Precedes p.sequence i j

-- an edge with no other path between its ends
pub record PublishedReduction (c : Table) (a b : ℕ) : Type 0 where
  pub some : 0 < c a b
  pub alone : (k : ℕ) → Edge c (c a b) a k → Path c (c a b) k b → ⊥
