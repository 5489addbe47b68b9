-- Two steps of a graph.
use Rattle.std.proofs.Common.{◌≡◌, ℕ, ◌<◌, ◌≤◌, ◌&&◌, eqb, ◌≢◌, sym, refl, ◌∙◌, inl, inr, arith}
use Rattle.std.proofs.lemmas.Bool.{cases_lt, ne_eqb, and_parts}
use Rattle.graphs.specs.Edges.{edge, two_steps}
use Rattle.graphs.specs.declared.graph.Graph.{Graph}
use Rattle.plans.proofs.Searches.{some_tells, some_from, none_from}
use Rattle.plans.specs.Changes.{bypassed}
use Rattle.plans.specs.Tables.{Table}
use Rattle.table_tests.specs.Tested.{Shows}

-- two steps of the graph that has (a, b) bypass it
pub steps_bypass :
    (m code : ℕ) (c : Table) (g : Graph) → m ≤ 64 → 0 < code → ((i j : ℕ) → 0 < c i j → (i < m) × (j < m))
    → Shows c code g → (a b : ℕ) → c a b ≡ code → two_steps g a b ≡ bypassed m c a b
unfolding two_steps
steps_bypass m code c g few some within shows a b e =
    elim (some_tells m (λ k. eqb (c a k) (c a b) && eqb (c k b) (c a b))) [
      | inl (t, (k, h, p)) ↦
          let both = and_parts (eqb (c a k) (c a b)) (eqb (c k b) (c a b)) p in
          some_from 64 (λ j. edge g a j && edge g j b) k (omega arith)
          (rw (shows a k, shows k b, ← e) p) ∙ sym t
      | inr (t, none) ↦
          none_from 64 (λ j. edge g a j && edge g j b)
          (λ k h.
          elim (cases_lt k m) [
            | inl l ↦ rw (shows a k, shows k b, ← e) (none k l)
            | inr l ↦
                let out : c a k ≢ code = λ f. omega (arith, (within a k (rw f some)).1) in
                rw (shows a k, ne_eqb (c a k) code out) refl
          ])
          ∙ sym t
    ]
