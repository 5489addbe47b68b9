-- The floorplan of two graphs with a sequence.
use Rattle.std.specs.Prelude.{ℕ, List, take}
use Rattle.plans.specs.Tables.{Table, Floorplan, codes_of}
use Rattle.table_tests.specs.Tested.{graph_table}
use Rattle.table_tests.specs.declared.build.TwoGraphs.{TwoGraphs}

-- the table of a pair of graphs
abbrev pub table_drawn : TwoGraphs → Table
table_drawn two = graph_table two.right two.above

-- the floorplan of m modules of two graphs, with the first m places of a sequence
abbrev pub graphs_plan : ℕ → TwoGraphs → List ℕ → Floorplan
graphs_plan m two s = record { size = m; codes = codes_of m (table_drawn two); sequence = take m s }
