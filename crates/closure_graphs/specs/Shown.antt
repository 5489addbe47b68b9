-- The two graphs of a table, by the codes of their edges.
use Rattle.graphs.specs.declared.graph.Graph.{Graph}
use Rattle.plans.specs.Tables.{Table}
use Rattle.plans.specs.declared.direction.Direction.{Direction}
use Rattle.plans.specs.declared.direction.Direction.TheVariants.{Right, Above}
use Rattle.table_tests.specs.Tested.{Shows}
use Rattle.table_tests.specs.declared.build.TwoGraphs.{TwoGraphs}

-- one graph has exactly the edges of code 1, the other those of code 2
abbrev pub Shown : Table → TwoGraphs → Type 0
Shown c two = Shows c 1 two.right × Shows c 2 two.above

-- the two graphs, of which one has the edges of a direction
abbrev pub facing : Direction → Graph → Graph → TwoGraphs
facing Right own other = record { right = own; above = other }
facing Above own other = record { right = other; above = own }

-- the graph of a direction
abbrev pub graph_along : Direction → TwoGraphs → Graph
graph_along Right two = two.right
graph_along Above two = two.above
