-- The edges of a graph on modules 0 to 63.
use Rattle.std.specs.Prelude.{◌≡◌, ℕ, ◌<◌, Bool, true, false, cond, ◌&&◌, List, nat_lt, slice_index_or}
use Rattle.graphs.specs.declared.graph.Graph.{Graph}
use Rattle.module_set.specs.Members.{member, no_module}
use Rattle.module_set.specs.declared.set.ModuleSet.{ModuleSet}
use Rattle.plans.specs.Changes.{exchange}
use Rattle.plans.specs.Search.{some_below}

-- whether row i of some rows has j
unfoldable pub row_has : List ModuleSet → ℕ → ℕ → Bool
row_has rows i j = nat_lt i 64 && member (slice_index_or rows i no_module) j

-- whether a graph has an edge from i to j
unfoldable pub edge : Graph → ℕ → ℕ → Bool
unfolding row_has
edge g i j = row_has g.rows i j

-- whether a graph has an edge to k from a module to which i has an edge
unfoldable pub two_steps : Graph → ℕ → ℕ → Bool
two_steps g i k = some_below 64 (λ j. edge g i j && edge g j k)

-- a and b in each other's place, where both are below 64
abbrev pub swapped : ℕ → ℕ → ℕ → ℕ
swapped a b i = cond (nat_lt a 64 && nat_lt b 64) (exchange a b i) i

-- the successors of a module, where it is one of 0 to 63
abbrev pub row_of : Graph → ℕ → ModuleSet
row_of g i = slice_index_or g.rows i no_module

-- a row in a changed graph: made of the old one where it was to change, and the old one where not
abbrev pub RowChanged : (ModuleSet → ModuleSet → Type 0) → Bool → ModuleSet → ModuleSet → Type 0
RowChanged Makes true old new = Makes old new
RowChanged Makes false old new = new ≡ old

-- each row of a graph is made of the rows of two
pub record RowsMade (Makes : ModuleSet → ModuleSet → ModuleSet → Type 0) (g h made : Graph) : Type 0 where
  pub each : (i : ℕ) → i < 64 → Makes (row_of g i) (row_of h i) (row_of made i)
