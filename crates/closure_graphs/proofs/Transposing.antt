-- The two graphs exchanged stand for the floorplan with the axes exchanged.
use Rattle.std.proofs.Common.{◌≡◌, ℕ, eqb, sym, refl, ap, ◌∙◌, arith}
use Rattle.std.proofs.lemmas.Bool.Decides.{nat_tests}
use Rattle.std.proofs.lemmas.List.{get_or-take}
use Rattle.plans.proofs.TransposeLaw.{transpose_law}
use Rattle.plans.specs.Tables.{Floorplan, table_in}
use Rattle.plans.specs.Transposed.{other_code, transpose}
use Rattle.table_tests.specs.declared.build.TwoGraphs.{TwoGraphs}
use Rattle.closure_graphs.proofs.StandsFor.{StandsFor, stands_for}
use Rattle.closure_graphs.specs.Meaning.{graphs_mean}
use Rattle.closure_graphs.specs.Settled.{plan_feasible}
use Rattle.closure_graphs.specs.Shown.{Shown}
use Rattle.closure_graphs.specs.declared.closure_graphs.ClosureGraphs.{ClosureGraphs}

module _ (x : ClosureGraphs) where
  abbrev plan : Floorplan
  plan = graphs_mean x

  abbrev exchanged : TwoGraphs
  exchanged = record { right = x.graphs.above; above = x.graphs.right }

  exchanged_shown : Shown (table_in (transpose plan)) exchanged
  exchanged_shown = (
    λ i j. x.over i j ∙ first (table_in plan i j) ∙ ap (λ n. eqb n 1) (sym (transpose_law.codes plan i j)),
    λ i j. x.beside i j ∙ second (table_in plan i j) ∙ ap (λ n. eqb n 2) (sym (transpose_law.codes plan i j)),
  )
    where
      first : (n : ℕ) → eqb n 2 ≡ eqb (other_code n) 1
      first n = grind (arith, nat_tests)

      second : (n : ℕ) → eqb n 1 ≡ eqb (other_code n) 2
      second n = grind (arith, nat_tests)

  pub transposed_stands : StandsFor (transpose plan) x.size exchanged x.sequence
  transposed_stands =
      stands_for (transpose plan) (transpose_law.feasible plan (plan_feasible x.size x.graphs x.sequence x.few x.long x.feasible))
      x.size refl exchanged exchanged_shown x.sequence x.long (λ k h. sym (get_or-take x.size x.sequence k 0 h))
