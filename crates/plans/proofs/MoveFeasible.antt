-- A move of a reduction edge leaves a feasible table feasible, and every edge in its direction.
use Rattle.std.proofs.Common.{◌≡◌, ℕ, ◌<◌, ◌≢◌, ◌⊎◌, List, get_or, sym, refl, ◌∙◌, inl, inr, arith}
use Rattle.std.proofs.lemmas.Bool.{cases_eq}
use Rattle.std.proofs.lemmas.Bool.Decides.{eqb_tells}
use Rattle.plans.proofs.Accepted.{Single}
use Rattle.plans.proofs.Beside.{converse, converse_feasible, TwoGraphs, beside_into}
use Rattle.plans.proofs.Sequences.{edge_onwards}
use Rattle.plans.proofs.Tellings.{both_tell, either_tell}
use Rattle.plans.specs.Changes.{other_graph, move_table}
use Rattle.plans.specs.ChangesInWords.{MoveFrom, MoveTo, MoveGains}
use Rattle.plans.specs.Tables.{Table, FeasibleTable, Fits}

module _ (c : Table) (a b : ℕ) where
  abbrev pub MovedTells : ℕ → ℕ → Type 0
  MovedTells i j =
      (MoveGains c a b i j × (move_table c a b i j ≡ other_graph (c a b)))
      ⊎ ((MoveGains c a b i j → ⊥) × (move_table c a b i j ≡ c i j))

  pub moved : (i j : ℕ) → MovedTells i j
  moved i j =
      let f = other_graph (c a b) in
      let from = either_tell (eqb_tells i a) (eqb_tells (c i a) f) in
      let to = either_tell (eqb_tells j b) (eqb_tells (c b j) f) in
      elim (both_tell from to) [
        | inl t ↦ inl (t.1, rw t.0 refl)
        | inr t ↦ inr (t.1, rw t.0 refl)
      ]

module _ (m : ℕ) (c : Table) (law : FeasibleTable m c) (a b : ℕ) (some : 0 < c a b) (single : Single c a b) where
  -- the graph that the edge moves to, and its own
  pub other_own : TwoGraphs (other_graph (c a b)) (c a b)
  other_own =
      let s = law.small a b in
      record { different = omega arith; some = omega arith; small = omega arith; some' = some; small' = s }

  -- a gained edge was there, in one graph or the other
  gained_was : (i j : ℕ) → MoveGains c a b i j → 0 < c i j
  gained_was i j g = go g.0 g.1
    where
      pos : 0 < other_graph (c a b)
      pos = other_own.some

      go : MoveFrom c a b i → MoveTo c a b j → 0 < c i j
      go (inl p) (inl q) = rw (p, q) some
      go (inl p) (inr q) = rw p (edge_onwards m c law a b j some (rw q pos))
      go (inr p) (inl q) = rw q (edge_onwards m c law i a b (rw p pos) some)
      go (inr p) (inr q) =
          edge_onwards m c law i a j (rw p pos) (edge_onwards m c law a b j some (rw q pos))

  -- an edge afterwards was an edge
  pub moved_was : (i j : ℕ) → 0 < move_table c a b i j → 0 < c i j
  moved_was i j h = elim (moved c a b i j) [ inl r ↦ gained_was i j r.0 | inr r ↦ rw r.1 at h ]

  -- and an edge is one afterwards
  moved_is : (i j : ℕ) → 0 < c i j → 0 < move_table c a b i j
  moved_is i j h = elim (moved c a b i j) [ inl r ↦ rw r.1 other_own.some | inr r ↦ rw r.1 h ]

  move_sides_apart : (k : ℕ) → MoveFrom c a b k → MoveTo c a b k → ⊥
  move_sides_apart k p q =
      let e = gained_was k k (p, q) in
      omega (arith, law.apart k)

  -- edges of the other graph lead back into the first side, and on from the second
  move_from_back : (i j : ℕ) → c i j ≡ other_graph (c a b) → MoveFrom c a b j → MoveFrom c a b i
  move_from_back i j e (inl p) = inr (rw p at e)
  move_from_back i j e (inr p) = inr (law.closed (other_graph (c a b)) i j a other_own.some e p)

  move_to_on : (j k : ℕ) → c j k ≡ other_graph (c a b) → MoveTo c a b j → MoveTo c a b k
  move_to_on j k e (inl p) = inr (rw p at e)
  move_to_on j k e (inr p) = inr (law.closed (other_graph (c a b)) b j k other_own.some p e)

  -- two edges of the own graph through a module on neither side do not lead from the first to the second
  no_way_through :
      (i j k : ℕ) → c i j ≡ c a b → c j k ≡ c a b → MoveGains c a b i k → (MoveFrom c a b j → ⊥) → (MoveTo c a b j → ⊥) → ⊥
  no_way_through i j k e h g p q =
      let inside = law.within a b some in
      let f = other_graph (c a b) in
      let x = beside_into m c law f (c a b) other_own a i j inside.0 g.0 e (λ s. p (inl s)) (λ s. p (inr s)) in
      let y =
      beside_into m (converse c) (converse_feasible m c law) f (c a b) other_own b k j inside.1 g.1 h
      (λ s. q (inl s)) (λ s. q (inr s))
      in
      single j x y

  move_closed :
      (h i j k : ℕ) → 0 < h → move_table c a b i j ≡ h → move_table c a b j k ≡ h → move_table c a b i k ≡ h
  move_closed h i j k pos e d = go (moved c a b i j) (moved c a b j k) (moved c a b i k)
    where
      gained : MovedTells c a b i k → MoveGains c a b i k → move_table c a b i k ≡ other_graph (c a b)
      gained (inl r) g = r.1
      gained (inr r) g = absurd (r.0 g)

      -- h is not the other graph: then it is the own one
      own : (i j : ℕ) → other_graph (c a b) ≢ h → c i j ≡ h → c a b ≡ h
      own i j n x =
          let s = law.small a b in
          let t = law.small i j in
          omega (arith, x, n)

      go : MovedTells c a b i j → MovedTells c a b j k → MovedTells c a b i k → move_table c a b i k ≡ h
      go (inl p) (inl q) r = absurd (move_sides_apart j q.0.0 p.0.1)
      go (inl p) (inr q) r =
          let x : other_graph (c a b) ≡ h = sym p.1 ∙ e in
          gained r (p.0.0, move_to_on j k (sym q.1 ∙ d ∙ sym x) p.0.1) ∙ x
      go (inr p) (inl q) r =
          let x : other_graph (c a b) ≡ h = sym q.1 ∙ d in
          gained r (move_from_back i j (sym p.1 ∙ e ∙ sym x) q.0.0, q.0.1) ∙ x
      go (inr p) (inr q) (inr r) = r.1 ∙ law.closed h i j k pos (sym p.1 ∙ e) (sym q.1 ∙ d)
      go (inr p) (inr q) (inl r) =
          elim (cases_eq (other_graph (c a b)) h) [
            | inl same ↦ r.1 ∙ same
            | inr n ↦
                let x : c i j ≡ h = sym p.1 ∙ e in
                let y : c j k ≡ h = sym q.1 ∙ d in
                let z = own i j n x in
                absurd (no_way_through i j k (x ∙ sym z) (y ∙ sym z) r.0
                (λ t. q.0 (t, r.0.1)) (λ t. p.0 (r.0.0, t)))
          ]

  pub move_feasible : FeasibleTable m (move_table c a b)
  move_feasible =
      record {
        few = law.few;
        small = λ i j.
            elim (moved c a b i j) [ inl r ↦ rw r.1 other_own.small | inr r ↦ rw r.1 (law.small i j) ];
        within = λ i j h. law.within i j (moved_was i j h);
        apart = λ i. none i i (law.apart i);
        joined = λ i j h k n.
            elim (law.joined i j h k n) [ inl e ↦ inl (moved_is i j e) | inr e ↦ inr (moved_is j i e) ];
        oneway = λ i j h. none j i (law.oneway i j (moved_was i j h));
        closed = move_closed;
      }
    where
      none : (i j : ℕ) → c i j ≡ 0 → move_table c a b i j ≡ 0
      none i j e =
          let h : 0 < move_table c a b i j → 0 < c i j = moved_was i j in
          elim (cases_eq (move_table c a b i j) 0) [ inl z ↦ z | inr n ↦ absurd (omega (arith, h (omega (arith, n)), e)) ]

  -- the same sequence fits
  pub move_fits : (s : List ℕ) → Fits m c s → Fits m (move_table c a b) s
  move_fits s f =
      record {
        long = f.long;
        modules = f.modules;
        once = f.once;
        forward = λ k l h i e. f.forward k l h i (moved_was (get_or s k 0) (get_or s l 0) e);
      }
