-- What the representation by two closure graphs means, and what is told of its edges and of its graphs after a change.
use Rattle.std.specs.Prelude.{◌≡◌, ◌<◌, ℕ, true, List, Some, None, Ok, Err, Result}
use Rattle.closure_graphs.specs.Sound.{table_drawn, graphs_plan}
use Rattle.closure_graphs.specs.Shown.{Shown, facing}
use Rattle.closure_graphs.specs.declared.closure_graphs.ClosureGraphs.{ClosureGraphs}
use Rattle.closure_graphs.specs.declared.edge.Edge.{Edge}
use Rattle.plans.specs.Changes.{after_load, edge_refusal, change_refusal, changed, with_table}
use Rattle.plans.specs.Directions.{code_along}
use Rattle.plans.specs.Tables.{Floorplan, FeasibleTable, table_in}
use Rattle.plans.specs.Sequences.{fitting}
use Rattle.plans.specs.Tests.{loadable}
use Rattle.plans.specs.declared.change.Change.{Change}
use Rattle.plans.specs.declared.direction.Direction.{Direction}
use Rattle.plans.specs.declared.refusals.ChangeRefusal.{ChangeRefusal}
use Rattle.plans.specs.declared.refusals.LoadRefusal.{LoadRefusal}
use Rattle.table_tests.specs.declared.build.TwoGraphs.{TwoGraphs}

-- the floorplan of the graphs and the sequence
abbrev pub graphs_mean : ClosureGraphs → Floorplan
graphs_mean x = graphs_plan x.size x.graphs x.sequence

-- the first refusal of a load, or graphs that mean what it gives
abbrev pub GraphsLoaded : List ℕ → List ℕ → Result ClosureGraphs LoadRefusal → Type 0
GraphsLoaded codes s (Ok x) = after_load codes s ≡ Ok (graphs_mean x)
GraphsLoaded codes s (Err e) = after_load codes s ≡ Err e

-- the first refusal of a change of (a, b), or the direction of the edge from a to b, a reduction edge between two modules
abbrev pub EdgeFound : ClosureGraphs → ℕ → ℕ → Result Direction ChangeRefusal → Type 0
EdgeFound x a b (Ok d) =
    (edge_refusal x.size (table_in (graphs_mean x)) a b ≡ None)
    × (table_in (graphs_mean x) a b ≡ code_along d)
    × (a < 64)
    × (b < 64)
EdgeFound x a b (Err e) = edge_refusal x.size (table_in (graphs_mean x)) a b ≡ Some e

-- that edge with its two graphs
abbrev pub EdgeTaken : ClosureGraphs → ℕ → ℕ → Edge → Type 0
EdgeTaken x a b e =
    (edge_refusal x.size (table_in (graphs_mean x)) a b ≡ None)
    × (table_in (graphs_mean x) a b ≡ code_along e.direction)
    × (e.from ≡ a)
    × (e.to ≡ b)
    × (facing e.direction e.own e.other ≡ x.graphs)

-- a floorplan with the codes of two graphs
abbrev pub with_graphs : Floorplan → TwoGraphs → Floorplan
with_graphs p two = with_table p (table_drawn two) p.sequence

-- the two graphs of a feasible floorplan
abbrev pub Draws : Floorplan → TwoGraphs → Type 0
Draws p two =
    ((with_graphs p two).codes ≡ p.codes)
    × (loadable (with_graphs p two) ≡ true)
    × Shown (table_in (with_graphs p two)) two

-- the first refusal of a change, or the graphs of the changed floorplan
abbrev pub Redrawn : Floorplan → Change → Result TwoGraphs ChangeRefusal → Type 0
Redrawn p change (Ok two) = (change_refusal p change ≡ None) × Draws (changed p change) two
Redrawn p change (Err e) = change_refusal p change ≡ Some e

-- graphs whose fitting sequence is that of the changed floorplan
abbrev pub Refitted : Floorplan → Change → Result TwoGraphs ChangeRefusal → Type 0
Refitted p change (Ok two) =
    FeasibleTable p.size (table_drawn two)
    × Shown (table_drawn two) two
    × (fitting p.size (table_drawn two) ≡ (changed p change).sequence)
Refitted p change (Err e) = Unit {0}
