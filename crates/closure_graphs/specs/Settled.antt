-- Two graphs that show the table of a feasible floorplan draw it.
use Rattle.std.specs.Prelude.{◌≡◌, ℕ, ◌≤◌, true, List, length, take, refl}
use Rattle.std.proofs.Common.{arith, sym, ◌∙◌, ap, subst}
use Rattle.std.proofs.lemmas.List.{length-take-le}
use Rattle.plans.proofs.ChangesFeasible.{table_of_changed}
use Rattle.plans.proofs.LoadLaw.{loadable_feasible, feasible_loadable}
use Rattle.plans.specs.Changes.{with_table}
use Rattle.plans.specs.Tables.{Table, Floorplan, Feasible, FeasibleTable, table_in, codes_of}
use Rattle.plans.specs.Tests.{loadable}
use Rattle.table_tests.proofs.Passed.{shown_table}
use Rattle.table_tests.specs.declared.build.TwoGraphs.{TwoGraphs}
use Rattle.closure_graphs.specs.Meaning.{Draws, with_graphs}
use Rattle.closure_graphs.specs.Shown.{Shown}
use Rattle.closure_graphs.specs.Sound.{table_drawn, graphs_plan}

-- what the graphs of an invariant tell
module _ (m : ℕ) (two : TwoGraphs) (s : List ℕ) (few : m ≤ 64) (long : length s ≡ 64)
    (ok : loadable (graphs_plan m two s) ≡ true) where
  pub length_of_places : length (take m s) ≡ m
  length_of_places = length-take-le m s (omega arith)

  pub plan_feasible : Feasible (graphs_plan m two s)
  plan_feasible = loadable_feasible (graphs_plan m two s) length_of_places ok

  pub plan_table :
      Shown (table_in (graphs_plan m two s)) two → table_drawn two ≡ table_in (graphs_plan m two s)
  plan_table shown = shown_table (table_in (graphs_plan m two s)) two.right two.above plan_feasible.table.small shown.0 shown.1

-- the graphs that show the table of a feasible floorplan draw it
pub draws :
    (p : Floorplan) (c : Table) (two : TwoGraphs) → Feasible p → p.codes ≡ codes_of p.size c → table_in p ≡ c
    → Shown c two → Draws p two
draws p c two law codes table shown =
    let same =
    shown_table c two.right two.above (subst (λ t. (i j : ℕ) → t i j ≤ 2) table law.table.small) shown.0 shown.1
    in
    let told = ap (codes_of p.size) same ∙ sym codes in
    let plan : with_graphs p two ≡ p = λ i. record { size = p.size; codes = told i; sequence = p.sequence } in (
      told,
      subst (λ q. loadable q ≡ true) (sym plan) (feasible_loadable p law),
      subst (λ t. Shown t two) (sym (ap table_in plan ∙ table)) shown,
    )

-- after a change to another table
pub draws_changed :
    (p : Floorplan) (c : Table) (t : List ℕ) (two : TwoGraphs) → Feasible (with_table p c t) → FeasibleTable p.size c
    → Shown c two → Draws (with_table p c t) two
draws_changed p c t two law table shown = draws (with_table p c t) c two law refl (table_of_changed p c t table) shown
