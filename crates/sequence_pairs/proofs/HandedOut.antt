-- The edges that both orders of a pair have, and those of the packing order alone, are the graphs of what it means.
use Rattle.std.proofs.Common.{◌≡◌, ℕ, Bool, true, false, cond, not, ◌&&◌, eqb, ltb, List, get_or, sym, refl, ap, ◌∙◌}
use Rattle.std.proofs.lemmas.List.{get_or-take}
use Rattle.closure_graphs.proofs.StandsFor.{StandsFor, stands_for}
use Rattle.closure_graphs.specs.Shown.{Shown}
use Rattle.graphs.specs.Edges.{edge}
use Rattle.graphs.specs.declared.graph.Graph.{Graph}
use Rattle.plans.specs.Tables.{table_in}
use Rattle.sequence_pairs.specs.Keeping.{before_by}
use Rattle.sequence_pairs.specs.Meaning.{meant}
use Rattle.sequence_pairs.specs.ToldLemmas.{meant_feasible, meant_size, told}
use Rattle.sequence_pairs.specs.declared.pair.SequencePair.{SequencePair}
use Rattle.table_tests.specs.declared.build.TwoGraphs.{TwoGraphs}

-- before in both orders, and before in the packing order alone
in_both : (a b p q : Bool) → ((a && (b && p)) && (a && (b && q))) ≡ eqb (cond (a && b) (cond p (cond q 1 2) 0) 0) 1
in_both false b p q = refl
in_both true false p q = refl
in_both true true false q = refl
in_both true true true false = refl
in_both true true true true = refl

in_one : (a b p q : Bool) → ((a && (b && p)) && not (a && (b && q))) ≡ eqb (cond (a && b) (cond p (cond q 1 2) 0) 0) 2
in_one false b p q = refl
in_one true false p q = refl
in_one true true false q = refl
in_one true true true false = refl
in_one true true true true = refl

module _ (x : SequencePair) (packing other : Graph)
    (first : (i j : ℕ) → edge packing i j ≡ before_by x.packing.count x.packing.places i j)
    (second : (i j : ℕ) → edge other i j ≡ before_by x.other.count x.other.places i j) (two : TwoGraphs)
    (beside : (i j : ℕ) → edge two.right i j ≡ (edge packing i j && edge other i j))
    (over : (i j : ℕ) → edge two.above i j ≡ (edge packing i j && not (edge other i j))) where
  second_is : (i j : ℕ) → edge other i j ≡ before_by x.packing.count x.other.places i j
  second_is i j = second i j ∙ ap (λ n. before_by n x.other.places i j) x.same

  abbrev is_module : ℕ → Bool
  is_module i = ltb i x.packing.count

  abbrev placed_before : List ℕ → ℕ → ℕ → Bool
  placed_before places i j = ltb (get_or places i 0) (get_or places j 0)

  pair_shown : Shown (table_in (meant x)) two
  pair_shown = (
    λ i j.
        beside i j ∙ (λ t. first i j t && second_is i j t)
        ∙ in_both (is_module i) (is_module j) (placed_before x.packing.places i j) (placed_before x.other.places i j)
        ∙ ap (λ n. eqb n 1) (sym (told x i j)),
    λ i j.
        over i j ∙ (λ t. first i j t && not (second_is i j t))
        ∙ in_one (is_module i) (is_module j) (placed_before x.packing.places i j) (placed_before x.other.places i j)
        ∙ ap (λ n. eqb n 2) (sym (told x i j)),
  )

  pub pair_stands : StandsFor (meant x) x.packing.count two x.packing.modules
  pair_stands =
      stands_for (meant x) (meant_feasible x) x.packing.count (sym (meant_size x)) two pair_shown x.packing.modules x.packing.room
      (λ k h. sym (get_or-take x.packing.count x.packing.modules k 0 h))
