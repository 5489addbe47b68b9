-- What a tested table and sequence answer: the first refusal of a load, or the two graphs.
use Rattle.std.specs.Prelude.{◌≡◌, ℕ, cond, ◌≢◌, List, length, Some, None, Option, Ok, Err, Result, ◌==◌}
use Rattle.graphs.specs.Edges.{edge}
use Rattle.graphs.specs.declared.graph.Graph.{Graph}
use Rattle.plans.specs.Tables.{Table, table_of, codes_of}
use Rattle.plans.specs.Tests.{load_refusal}
use Rattle.plans.specs.declared.refusals.LoadRefusal.{LoadRefusal}
use Rattle.table_tests.specs.declared.build.TwoGraphs.{TwoGraphs}

-- a graph has exactly the edges of one code of a table
abbrev pub Shows : Table → ℕ → Graph → Type 0
Shows c code g = (i j : ℕ) → edge g i j ≡ (c i j == code)

-- the table of two graphs: 1 for an edge of the first, 2 for one of the second
abbrev pub graph_table : Graph → Graph → Table
graph_table g h i j = cond (edge g i j) 1 (cond (edge h i j) 2 0)

-- refused by the first refusal, or not refused and with the graphs of the codes 1 and 2
abbrev pub Tested : List ℕ → List ℕ → Result TwoGraphs LoadRefusal → Type 0
Tested codes s (Ok two) =
    (load_refusal codes s ≡ None)
    × Shows (table_of (length s) codes) 1 two.right
    × Shows (table_of (length s) codes) 2 two.above
Tested codes s (Err e) = load_refusal codes s ≡ Some e

-- where a table is accepted, no other table has its two graphs
abbrev pub TestedWhole : List ℕ → List ℕ → Result TwoGraphs LoadRefusal → Type 0
TestedWhole codes s (Ok two) = codes_of (length s) (graph_table two.right two.above) ≡ codes
TestedWhole codes s (Err e) = Unit {0}

-- the graphs of a load that is accepted, and none of a load that is refused
abbrev pub AcceptsExactly : List ℕ → List ℕ → Option TwoGraphs → Type 0
AcceptsExactly codes s (Some two) = Tested codes s (Ok two) × TestedWhole codes s (Ok two)
AcceptsExactly codes s None = load_refusal codes s ≢ None
