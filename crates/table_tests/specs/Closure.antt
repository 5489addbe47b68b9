-- The edges that two graphs lack to be closed.
use Rattle.std.specs.Prelude.{ℕ, Bool, not, ◌&&◌, ◌||◌}
use Rattle.graphs.specs.Edges.{edge, two_steps}
use Rattle.graphs.specs.declared.graph.Graph.{Graph}

-- whether a graph has two edges on from i to k and not the one that they close
abbrev pub lacks : Graph → ℕ → ℕ → Bool
lacks g i k = two_steps g i k && not (edge g i k)

-- whether either of two graphs does
abbrev pub missing : Graph → Graph → ℕ → ℕ → Bool
missing g h i k = lacks g i k || lacks h i k
