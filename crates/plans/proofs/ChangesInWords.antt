-- The changes are what the words say: the edges that each graph gains and loses.
use Rattle.std.proofs.Common.{◌≡◌, ℕ, ◌<◌, ◌⊎◌, ◌↔◌, map, None, sym, refl, ap, ◌∙◌, subst, inl, inr, arith}
use Rattle.plans.proofs.Accepted.{Single, two_accepted, edge_accepted, free_single}
use Rattle.plans.proofs.Beside.{TwoGraphs}
use Rattle.plans.proofs.ChangesFeasible.{table_of_changed}
use Rattle.plans.proofs.MoveFeasible.{MovedTells, moved, move_feasible, other_own}
use Rattle.plans.proofs.ReverseFeasible.{gained_edge, kept_code, reverse_feasible}
use Rattle.plans.proofs.ReverseTables.{ReversedTells, reversed, never}
use Rattle.plans.proofs.SwapFeasible.{swap_feasible}
use Rattle.plans.specs.Changes.{other_graph, exchange, change_refusal, changed, swap_table, reverse_table, move_table}
use Rattle.plans.specs.ChangesInWords.{Becomes, ReverseGains, MoveGains, SwapWords, ReverseWords, MoveWords, ChangesAsTold}
use Rattle.plans.specs.Published.{Edge}
use Rattle.plans.specs.Sequences.{fitting}
use Rattle.plans.specs.Tables.{Table, Floorplan, FeasibleTable, Feasible, table_in}
use Rattle.plans.specs.declared.change.Change.TheVariants.{Rotate, Swap, Reverse, MoveEdge}

module _ (m : ℕ) (c : Table) (law : FeasibleTable m c) (a b : ℕ) (some : 0 < c a b) (single : Single c a b) where
  two : TwoGraphs (other_graph (c a b)) (c a b)
  two = other_own m c law a b some single

  reverse_own :
      (i j : ℕ)
      → Becomes (Edge (reverse_table c a b) (c a b) i j) (Edge c (c a b) i j) (ReverseGains c a b i j) ((i ≡ a) × (j ≡ b))
  reverse_own i j = (λ e. there e (reversed m c law a b some single i j), λ e. back e (reversed m c law a b some single i j))
    where
      there :
          Edge (reverse_table c a b) (c a b) i j → ReversedTells c a b some i j
          → ReverseGains c a b i j ⊎ (Edge c (c a b) i j × ((i ≡ a) × (j ≡ b) → ⊥))
      there e (inl r) = inl r.0
      there e (inr (inl r)) = absurd (omega (arith, r.1, e))
      there e (inr (inr r)) = inr (sym r.2 ∙ e, λ s. r.1 (inl s.1, inl s.0))

      back :
          ReverseGains c a b i j ⊎ (Edge c (c a b) i j × ((i ≡ a) × (j ≡ b) → ⊥)) → ReversedTells c a b some i j
          → Edge (reverse_table c a b) (c a b) i j
      back (inl g) t = (gained_edge m c law a b some single i j g).0
      back (inr e) (inl r) = r.1
      back (inr e) (inr (inl r)) = absurd (e.1 (never m c law a b some single i j r.0 e.0))
      back (inr e) (inr (inr r)) = r.2 ∙ e.0

  reverse_other :
      (i j : ℕ)
      → Becomes (Edge (reverse_table c a b) (other_graph (c a b)) i j) (Edge c (other_graph (c a b)) i j)
      ⊥ (ReverseGains c a b i j ⊎ ReverseGains c a b j i)
  reverse_other i j = (λ e. there e (reversed m c law a b some single i j), back)
    where
      there :
          Edge (reverse_table c a b) (other_graph (c a b)) i j → ReversedTells c a b some i j
          → ⊥ ⊎ (Edge c (other_graph (c a b)) i j × (ReverseGains c a b i j ⊎ ReverseGains c a b j i → ⊥))
      there e (inl r) = absurd (two.different (sym e ∙ r.1))
      there e (inr (inl r)) = absurd (omega (arith, r.1, e, two.some))
      there e (inr (inr r)) = inr (sym r.2 ∙ e, elim [ inl g ↦ r.0 g | inr g ↦ r.1 g ])

      back :
          ⊥ ⊎ (Edge c (other_graph (c a b)) i j × (ReverseGains c a b i j ⊎ ReverseGains c a b j i → ⊥))
          → Edge (reverse_table c a b) (other_graph (c a b)) i j
      back (inl e) = absurd e
      back (inr e) = kept_code m c law a b some single i j (λ g. e.1 (inl g)) (λ g. e.1 (inr g)) ∙ e.0

  move_own :
      (i j : ℕ)
      → Becomes (Edge (move_table c a b) (c a b) i j) (Edge c (c a b) i j) ⊥ (MoveGains c a b i j)
  move_own i j = (λ e. there e (moved c a b i j), λ e. back e (moved c a b i j))
    where
      there :
          Edge (move_table c a b) (c a b) i j → MovedTells c a b i j
          → ⊥ ⊎ (Edge c (c a b) i j × (MoveGains c a b i j → ⊥))
      there e (inl r) = absurd (two.different (sym r.1 ∙ e))
      there e (inr r) = inr (sym r.1 ∙ e, r.0)

      back :
          ⊥ ⊎ (Edge c (c a b) i j × (MoveGains c a b i j → ⊥)) → MovedTells c a b i j → Edge (move_table c a b) (c a b) i j
      back (inl e) t = absurd e
      back (inr e) (inl r) = absurd (e.1 r.0)
      back (inr e) (inr r) = r.1 ∙ e.0

  move_other :
      (i j : ℕ)
      → Becomes (Edge (move_table c a b) (other_graph (c a b)) i j) (Edge c (other_graph (c a b)) i j) (MoveGains c a b i j) ⊥
  move_other i j = (λ e. there e (moved c a b i j), λ e. back e (moved c a b i j))
    where
      there :
          Edge (move_table c a b) (other_graph (c a b)) i j → MovedTells c a b i j
          → MoveGains c a b i j ⊎ (Edge c (other_graph (c a b)) i j × (⊥ → ⊥))
      there e (inl r) = inl r.0
      there e (inr r) = inr (sym r.1 ∙ e, λ x. x)

      back :
          MoveGains c a b i j ⊎ (Edge c (other_graph (c a b)) i j × (⊥ → ⊥)) → MovedTells c a b i j
          → Edge (move_table c a b) (other_graph (c a b)) i j
      back e (inl r) = r.1
      back (inl g) (inr r) = absurd (r.0 g)
      back (inr e) (inr r) = r.1 ∙ e.0

swap_words :
    (p : Floorplan) → Feasible p → (a b : ℕ) → change_refusal p (Swap a b) ≡ None → SwapWords p (changed p (Swap a b)) a b
swap_words p law a b e =
    let w = two_accepted p.size a b e in
    let new = swap_feasible p.size (table_in p) law.table a b w.first w.second in
    let same = table_of_changed p (swap_table (table_in p) a b) (map (exchange a b) p.sequence) new in
    record {
      size = refl;
      graphs = subst
          (λ (t : Table). (g i j : ℕ) → Edge t g i j ↔ Edge (table_in p) g (exchange a b i) (exchange a b j)) (sym same)
          (λ g i j. (λ x. x, λ x. x));
      sequence = refl;
    }

reverse_words :
    (p : Floorplan) → Feasible p → (a b : ℕ) → change_refusal p (Reverse a b) ≡ None → ReverseWords p (changed p (Reverse a b)) a b
reverse_words p law a b e =
    let c = table_in p in
    let r = edge_accepted p.size c a b e in
    let single = free_single p.size c law.table a b r in
    let new = reverse_feasible p.size c law.table a b r.some single in
    let same = table_of_changed p (reverse_table c a b) (fitting p.size (reverse_table c a b)) new in
    record {
      size = refl;
      own = subst
          (λ (t : Table). (i j : ℕ) → Becomes (Edge t (c a b) i j) (Edge c (c a b) i j) (ReverseGains c a b i j) ((i ≡ a) × (j ≡ b)))
          (sym same) (reverse_own p.size c law.table a b r.some single);
      other = subst
          (λ (t : Table). (i j : ℕ) → Becomes (Edge t (other_graph (c a b)) i j) (Edge c (other_graph (c a b)) i j) ⊥ (ReverseGains c a b i j ⊎ ReverseGains c a b j i))
          (sym same) (reverse_other p.size c law.table a b r.some single);
      sequence = ap (fitting p.size) (sym same);
    }

move_words :
    (p : Floorplan) → Feasible p → (a b : ℕ) → change_refusal p (MoveEdge a b) ≡ None → MoveWords p (changed p (MoveEdge a b)) a b
move_words p law a b e =
    let c = table_in p in
    let r = edge_accepted p.size c a b e in
    let single = free_single p.size c law.table a b r in
    let new = move_feasible p.size c law.table a b r.some single in
    let same = table_of_changed p (move_table c a b) p.sequence new in
    record {
      size = refl;
      own = subst
          (λ (t : Table). (i j : ℕ) → Becomes (Edge t (c a b) i j) (Edge c (c a b) i j) ⊥ (MoveGains c a b i j)) (sym same)
          (move_own p.size c law.table a b r.some single);
      other = subst
          (λ (t : Table). (i j : ℕ) → Becomes (Edge t (other_graph (c a b)) i j) (Edge c (other_graph (c a b)) i j) (MoveGains c a b i j) ⊥)
          (sym same) (move_other p.size c law.table a b r.some single);
      sequence = refl;
    }

pub changes_as_told : ChangesAsTold
changes_as_told p law (Rotate a) none = refl
changes_as_told p law (Swap a b) none = swap_words p law a b none
changes_as_told p law (Reverse a b) none = reverse_words p law a b none
changes_as_told p law (MoveEdge a b) none = move_words p law a b none
