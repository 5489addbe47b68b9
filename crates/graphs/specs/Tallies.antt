-- How often modules are counted.
use Rattle.std.specs.Prelude.{ℕ, zero, suc, ◌+◌, ◌^◌, Bool, cond, List, slice_index_or}
use Rattle.graphs.specs.Edges.{edge}
use Rattle.graphs.specs.declared.graph.Graph.{Graph}
use Rattle.graphs.specs.declared.tally.Tally.{Tally}
use Rattle.module_set.specs.Members.{member, no_module}
use Rattle.module_set.specs.declared.set.ModuleSet.{ModuleSet}
use Rattle.plans.specs.Search.{count_below}

-- the number of n binary digits, the lowest first
abbrev pub of_digits : ℕ → (ℕ → Bool) → ℕ
of_digits zero digit = 0
of_digits (suc n) digit = of_digits n digit + cond (digit n) (2 ^ n) 0

-- whether digit p of module k's count is set
abbrev pub has_digit : List ModuleSet → ℕ → ℕ → Bool
has_digit digits k p = member (slice_index_or digits p no_module) k

-- how often a tally counted a module
unfoldable pub times_counted : Tally → ℕ → ℕ
times_counted t k = of_digits 7 (has_digit t.digits k)

-- how many modules have an edge to j
unfoldable pub edges_into : Graph → ℕ → ℕ
edges_into g j = count_below 64 (λ i. edge g i j)
