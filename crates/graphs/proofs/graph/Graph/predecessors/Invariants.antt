-- The modules below the counter that have the edge are found.
use Rattle.std.proofs.Common.{◌≡◌, ℕ, ◌&&◌, ltb}
use Rattle.graphs.specs.Edges.{edge}
use Rattle.module_set.specs.Members.{member}
use Rattle.graphs.proofs.graph.Graph.predecessors.Given as goal

abbrev pub invariant-loop-i : goal.invariant-loop-i
invariant-loop-i l = (k : ℕ) → member l.found k ≡ (ltb k l.i && edge l.self k l.j)
