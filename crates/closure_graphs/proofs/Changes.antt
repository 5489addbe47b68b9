-- What each change of a sound pair of graphs leaves.
use Rattle.std.proofs.Common.{◌≡◌, ℕ, ◌<◌, Bool, eqb, map, take, Some, None, Option, Ok, sym, refl, ap, ◌∙◌, subst, arith}
use Rattle.std.proofs.lemmas.Bool.{lt-ltb}
use Rattle.graphs.specs.Edges.{edge, swapped, two_steps}
use Rattle.graphs.specs.declared.graph.Graph.{Graph}
use Rattle.module_set.specs.Members.{member}
use Rattle.module_set.specs.declared.set.ModuleSet.{ModuleSet}
use Rattle.plans.proofs.Accepted.{Two, Reduction, edge_accepted, free_single, two_accepted}
use Rattle.plans.proofs.ChangesFeasible.{changes_feasible}
use Rattle.plans.proofs.MoveFeasible.{move_feasible}
use Rattle.plans.proofs.ReverseFeasible.{reverse_feasible}
use Rattle.plans.proofs.SwapFeasible.{swap_feasible}
use Rattle.plans.specs.Changes.{changed, exchange, edge_refusal, two_refusal, swap_table, reverse_table, move_table}
use Rattle.plans.specs.Search.{refusing}
use Rattle.plans.specs.Directions.{code_along, code_told}
use Rattle.plans.specs.Sequences.{fitting}
use Rattle.plans.specs.Tables.{Floorplan, Feasible, FeasibleTable, table_in}
use Rattle.plans.specs.declared.change.Change.TheVariants.{Swap, Reverse, MoveEdge}
use Rattle.plans.specs.declared.direction.Direction.{Direction}
use Rattle.plans.specs.declared.refusals.ChangeRefusal.TheVariants.{NoReductionEdge}
use Rattle.closure_graphs.proofs.Refusals.{edge_told}
use Rattle.closure_graphs.proofs.Directions.{codes, shown_own, reverse_along, move_along}
use Rattle.closure_graphs.proofs.RowSteps.{steps_bypass}
use Rattle.table_tests.proofs.Passed.{shown_table}
use Rattle.table_tests.specs.declared.build.TwoGraphs.{TwoGraphs}
use Rattle.closure_graphs.specs.Settled.{draws_changed, plan_feasible, plan_table}
use Rattle.closure_graphs.specs.Meaning.{graphs_mean, EdgeTaken, Draws, Refitted}
use Rattle.closure_graphs.specs.Shown.{Shown, facing}
use Rattle.closure_graphs.specs.Sound.{table_drawn}
use Rattle.closure_graphs.specs.declared.closure_graphs.ClosureGraphs.{ClosureGraphs}
use Rattle.closure_graphs.specs.declared.edge.Edge.{Edge}
use Rattle.closure_graphs.specs.RowChanges.{reversed_own, reversed_other, moved_own, moved_other}

module _ (x : ClosureGraphs) where
  abbrev m : ℕ
  m = x.size

  abbrev two : TwoGraphs
  two = x.graphs

  abbrev plan : Floorplan
  plan = graphs_mean x

  abbrev shown : Shown (table_in plan) two
  shown = (x.beside, x.over)

  pub law : Feasible plan
  law = plan_feasible m two x.sequence x.few x.long x.feasible

  table : table_drawn two ≡ table_in plan
  table = plan_table m two x.sequence x.few x.long x.feasible shown

  own_shown : Shown (table_drawn two) two
  own_shown = subst (λ t. Shown t two) (sym table) shown

  -- the code that the two graphs tell
  pub told : (i j n : ℕ) → n ≡ table_drawn two i j → n ≡ table_in plan i j
  told i j n e = e ∙ ap (λ t. t i j) table

  module _ (a b : ℕ) where
    -- what two steps of the graph that has (a, b) tell is whether the edge is refused
    pub edge_refused :
        (o : Option Direction) (d : Direction) (g h : Graph) (t : ModuleSet) (r : Bool) → two_refusal m a b ≡ None
        → code_told o ≡ table_in plan a b → o ≡ Some d → facing d g h ≡ two → ((j : ℕ) → member t j ≡ two_steps g a j)
        → r ≡ member t b
        → (edge_refusal m (table_in plan) a b ≡ refusing r NoReductionEdge) × (table_in plan a b ≡ code_along d)
    edge_refused o d g h t r none told is same steps found =
        let code : code_along d ≡ table_in plan a b = sym (ap code_told is) ∙ told in (
          edge_told m (table_in plan) a b d r none code
              (found ∙ steps b
              ∙ steps_bypass m (code_along d) (table_in plan) g x.few (codes d).some law.table.within
              (shown_own (table_in plan) d g h (subst (Shown (table_in plan)) (sym same) shown)) a b (sym code)),
          sym code,
        )

    inside : Two m a b → (a < 64) × (b < 64)
    inside both = let few = x.few in let p = both.first in let q = both.second in (omega arith, omega arith)

    pub swap_drawn :
        two_refusal m a b ≡ None → (new : TwoGraphs)
        → ((i j : ℕ) → edge new.right i j ≡ edge two.right (swapped a b i) (swapped a b j))
        → ((i j : ℕ) → edge new.above i j ≡ edge two.above (swapped a b i) (swapped a b j))
        → Draws (changed plan (Swap a b)) new
    swap_drawn passed new p q =
        draws_changed plan (swap_table (table_in plan) a b) (map (exchange a b) (take m x.sequence)) new
        (changes_feasible plan (Swap a b) law passed)
        (swap_feasible m (table_in plan) law.table a b both.first both.second) (
          λ i j. p i j ∙ x.beside (swapped a b i) (swapped a b j) ∙ (λ t. eqb (table_in plan (at i t) (at j t)) 1),
          λ i j. q i j ∙ x.over (swapped a b i) (swapped a b j) ∙ (λ t. eqb (table_in plan (at i t) (at j t)) 2),
        )
      where
        both : Two m a b
        both = two_accepted m a b passed

        at : (i : ℕ) → swapped a b i ≡ exchange a b i
        at i = rw (lt-ltb a 64 (inside both).0, lt-ltb b 64 (inside both).1) refl

    module _ (passed : edge_refusal m (table_in plan) a b ≡ None) where
      reduction : Reduction m (table_in plan) a b
      reduction = edge_accepted m (table_in plan) a b passed

      reversed_law : FeasibleTable m (reverse_table (table_in plan) a b)
      reversed_law =
          reverse_feasible m (table_in plan) law.table a b reduction.some
          (free_single m (table_in plan) law.table a b reduction)

      -- two graphs of the changed table draw it, and those after a reverse fit its sequence
      reverse_drawn :
          (new : TwoGraphs) → Shown (reverse_table (table_drawn two) a b) new
          → Draws (changed plan (Reverse a b)) new × Refitted plan (Reverse a b) (Ok new)
      reverse_drawn new now-shown =
          let now = subst (λ t. Shown (reverse_table t a b) new) table now-shown in
          let same = shown_table (reverse_table (table_in plan) a b) new.right new.above reversed_law.small now.0 now.1 in (
            draws_changed plan (reverse_table (table_in plan) a b) (fitting m (reverse_table (table_in plan) a b)) new
                (changes_feasible plan (Reverse a b) law passed) reversed_law now,
            (
              subst (FeasibleTable m) (sym same) reversed_law,
              subst (λ t. Shown t new) (sym same) now,
              ap (fitting m) same,
            ),
          )

      move_drawn :
          (new : TwoGraphs) → Shown (move_table (table_drawn two) a b) new → Draws (changed plan (MoveEdge a b)) new
      move_drawn new now-shown =
          draws_changed plan (move_table (table_in plan) a b) (take m x.sequence) new
          (changes_feasible plan (MoveEdge a b) law passed)
          (move_feasible m (table_in plan) law.table a b reduction.some
          (free_single m (table_in plan) law.table a b reduction))
          (subst (λ t. Shown (move_table t a b) new) table now-shown)

    -- the two graphs of an edge that was found and changed
    module _ (e e' : Edge) (found : EdgeTaken x a b e) (along : e'.direction ≡ e.direction) (new : TwoGraphs)
        (is : new ≡ facing e'.direction e'.own e'.other) where
      faced : new ≡ facing e.direction e'.own e'.other
      faced = is ∙ ap (λ d. facing d e'.own e'.other) along

      code : table_drawn two e.from e.to ≡ code_along e.direction
      code = rw (found.2, found.3) (ap (λ t. t a b) table ∙ found.1)

      before : Shown (table_drawn two) (facing e.direction e.own e.other)
      before = subst (Shown (table_drawn two)) (sym found.4) own_shown

      pub edge_reversed :
          ((i j : ℕ) → edge e'.own i j ≡ reversed_own (edge e.own) e.from e.to i j)
          → ((i j : ℕ) → edge e'.other i j ≡ reversed_other (edge e.own) (edge e.other) e.from e.to i j)
          → Draws (changed plan (Reverse a b)) new × Refitted plan (Reverse a b) (Ok new)
      edge_reversed p q =
          let now =
          reverse_along e.direction (table_drawn two) e.from e.to code e.own e.other before e'.own e'.other p q
          in
          reverse_drawn found.0 new (rw (← found.2, ← found.3, faced) now)

      pub edge_moved :
          ((i j : ℕ) → edge e'.own i j ≡ moved_own (edge e.own) (edge e.other) e.from e.to i j)
          → ((i j : ℕ) → edge e'.other i j ≡ moved_other (edge e.other) e.from e.to i j)
          → Draws (changed plan (MoveEdge a b)) new
      edge_moved p q =
          let now =
          move_along e.direction (table_drawn two) e.from e.to code e.own e.other before e'.own e'.other p q
          in
          move_drawn found.0 new (rw (← found.2, ← found.3, faced) now)
