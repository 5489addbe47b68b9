-- Two graphs and a list of places that stand for a feasible floorplan.
use Rattle.std.proofs.Common.{◌≡◌, ℕ, ◌≤◌, true, List, length, take, sym, ap, ◌∙◌, subst, arith}
use Rattle.plans.proofs.LoadLaw.{feasible_loadable}
use Rattle.plans.proofs.TableLists.{same_table}
use Rattle.plans.specs.Tables.{Floorplan, Feasible, table_in, codes_of}
use Rattle.plans.specs.Tests.{loadable}
use Rattle.table_tests.proofs.Passed.{shown_table}
use Rattle.table_tests.specs.declared.build.TwoGraphs.{TwoGraphs}
use Rattle.closure_graphs.proofs.Fronts.{Begins, begins_whole}
use Rattle.closure_graphs.specs.Shown.{Shown}
use Rattle.closure_graphs.specs.Sound.{table_drawn, graphs_plan}

-- they mean the floorplan, and nothing that closure graphs keep is missing
pub record StandsFor (p : Floorplan) (m : ℕ) (two : TwoGraphs) (s : List ℕ) : Type 0 where
  pub few : m ≤ 64
  pub long : length s ≡ 64
  pub feasible : loadable (graphs_plan m two s) ≡ true
  pub shown : Shown (table_in (graphs_plan m two s)) two
  pub is : graphs_plan m two s ≡ p

-- so do the graphs of its table, with its sequence at the front of the list
module _ (p : Floorplan) (f : Feasible p) (m : ℕ) (size : m ≡ p.size) (two : TwoGraphs) (shown : Shown (table_in p) two)
    (s : List ℕ) (long : length s ≡ 64) (same : Begins m p.sequence s) where
  at_most : m ≤ 64
  at_most = omega (arith, f.table.few)

  first_places : take m s ≡ p.sequence
  first_places = begins_whole p.sequence s m (f.fits.long ∙ sym size) (omega (arith, at_most)) same

  means_plan : graphs_plan m two s ≡ p
  means_plan =
      let codes : codes_of m (table_drawn two) ≡ p.codes =
      ap (λ n. codes_of n (table_drawn two)) size
      ∙ ap (codes_of p.size) (shown_table (table_in p) two.right two.above f.table.small shown.0 shown.1)
      ∙ same_table p.size p.codes f.full in
      λ i. record { size = size i; codes = codes i; sequence = first_places i }

  pub stands_for : StandsFor p m two s
  stands_for = record {
    few = at_most;
    long = long;
    feasible = subst (λ q. loadable q ≡ true) (sym means_plan) (feasible_loadable p f);
    shown = subst (λ q. Shown (table_in q) two) (sym means_plan) shown;
    is = means_plan;
  }
