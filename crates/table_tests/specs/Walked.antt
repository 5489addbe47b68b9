-- A sequence along which each module has edges to exactly those that stand after it, in two closed graphs.
use Rattle.std.specs.Prelude.{◌≡◌, ℕ, ◌+◌, ◌<◌, Bool, true, ◌&&◌, ◌||◌, List, length, ◌==◌, nat_le, slice_index}
use Rattle.graphs.specs.Edges.{edge}
use Rattle.graphs.specs.declared.graph.Graph.{Graph}
use Rattle.plans.specs.Search.{some_below}
use Rattle.table_tests.specs.declared.build.TwoGraphs.{TwoGraphs}

-- whether there is an edge in either graph
abbrev pub either_edge : TwoGraphs → ℕ → ℕ → Bool
either_edge two i j = edge two.right i j || edge two.above i j

-- i has an edge of a graph to all that its successors have edges to in it
abbrev pub ClosedAt : Graph → ℕ → Type 0
ClosedAt g i = (j k : ℕ) → edge g i j ≡ true → edge g j k ≡ true → edge g i k ≡ true

-- in each of two graphs
abbrev pub BothClosedAt : TwoGraphs → ℕ → Type 0
BothClosedAt two i = ClosedAt two.right i × ClosedAt two.above i

-- whether j stands at a place from k on
abbrev pub stands_from : List ℕ → ℕ → ℕ → Bool
stands_from s k j = some_below (length s) (λ l. nat_le k l && slice_index s l == j)

-- i has edges to exactly those ahead of it, and in each graph to all that theirs lead to
pub record GoesOn (two : TwoGraphs) (i : ℕ) (ahead : ℕ → Bool) : Type 0 where
  pub exactly : (j : ℕ) → either_edge two i j ≡ ahead j
  pub closed : BothClosedAt two i

-- the number at a place is one of as many modules as there are places, and goes on to exactly those that stand later
pub record WalkedAt (two : TwoGraphs) (s : List ℕ) (k : ℕ) : Type 0 where
  pub names_module : slice_index s k < length s
  pub goes_on : GoesOn two (slice_index s k) (stands_from s (k + 1))

-- so at each place
abbrev pub Walked : TwoGraphs → List ℕ → Type 0
Walked two s = (k : ℕ) → k < length s → WalkedAt two s k
