-- A reverse of a reduction edge leaves a feasible table feasible.
use Rattle.std.proofs.Common.{◌≡◌, ℕ, ◌<◌, ◌≤◌, ◌≢◌, ◌⊎◌, sym, ◌∙◌, inl, inr, arith}
use Rattle.std.proofs.lemmas.Bool.{cases_eq}
use Rattle.plans.proofs.Accepted.{Single}
use Rattle.plans.proofs.Beside.{converse, converse_feasible, TwoGraphs, beside_into, beside_onto}
use Rattle.plans.proofs.ReverseTables.{ReversedTells, sides_apart, to_onwards, from_backwards, never, reversed}
use Rattle.plans.specs.Changes.{reverse_table}
use Rattle.plans.specs.ChangesInWords.{ReverseFrom, ReverseTo, ReverseGains}
use Rattle.plans.specs.Tables.{Table, FeasibleTable}

-- a side without what keeps (a, b) out of it
side : {P Q R : Type 0} → P ⊎ (Q × R) → P ⊎ R
side (inl p) = inl p
side (inr q) = inr q.1

module _ (m : ℕ) (c : Table) (law : FeasibleTable m c) (a b : ℕ) (some : 0 < c a b) (single : Single c a b) where
  tell : (i j : ℕ) → ReversedTells c a b some i j
  tell = reversed m c law a b some single

  -- a module on neither side: it is neither a nor b, and is not joined to them as the sides are
  record Neither (j : ℕ) : Type 0 where
    pub not_a : j ≢ a
    pub not_b : j ≢ b
    pub not_to_b : c j b ≡ c a b → ⊥
    pub not_from_a : c a j ≡ c a b → ⊥

  neither : (j : ℕ) → (ReverseFrom c a b j → ⊥) → (ReverseTo c a b j → ⊥) → Neither j
  neither j p q =
      let na : j ≢ a = λ e. q (inl e) in
      let nb : j ≢ b = λ e. p (inl e) in
      record { not_a = na; not_b = nb; not_to_b = λ e. p (inr (na, e)); not_from_a = λ e. q (inr (nb, e)) }

  -- two edges of the other graph do not lead from the first side round to the second
  no_way_in :
      (h i j k : ℕ) → TwoGraphs (c a b) h → c i j ≡ h → c j k ≡ h → Neither j → ReverseGains c a b i k → ⊥
  no_way_in h i j k two e f n g =
      let inside = law.within a b some in
      let p = beside_into m c law (c a b) h two b i j inside.1 (side g.0) e n.not_b n.not_to_b in
      let q =
      beside_into m (converse c) (converse_feasible m c law) (c a b) h two a k j inside.0 (side g.1) f n.not_a
      n.not_from_a
      in
      let r = law.closed h b j a two.some' p q in
      let s = law.oneway a b some in
      omega (arith, two.some', r, s)

  -- nor from the second round to the first
  no_way_out :
      (h i j k : ℕ) → TwoGraphs (c a b) h → c i j ≡ h → c j k ≡ h → Neither j → ReverseGains c a b k i → ⊥
  no_way_out h i j k two e f n g =
      let inside = law.within a b some in
      let p = beside_onto m c law (c a b) h two a i j inside.0 (side g.1) e n.not_a n.not_from_a in
      let q =
      beside_onto m (converse c) (converse_feasible m c law) (c a b) h two b k j inside.1 (side g.0) f n.not_b
      n.not_to_b
      in
      two.different (law.closed h a j b two.some' p q)

  own_closed :
      (i j k : ℕ) → reverse_table c a b i j ≡ c a b → reverse_table c a b j k ≡ c a b → reverse_table c a b i k ≡ c a b
  own_closed i j k e f = go (tell i j) (tell j k) (tell i k)
    where
      gained :
          ReversedTells c a b some i k → ReverseGains c a b i k → reverse_table c a b i k ≡ c a b
      gained (inl r) g = r.1
      gained (inr (inl r)) g = absurd (sides_apart m c law a b some single i g.0 r.0.1)
      gained (inr (inr r)) g = absurd (r.0 g)

      go :
          ReversedTells c a b some i j → ReversedTells c a b some j k → ReversedTells c a b some i k
          → reverse_table c a b i k ≡ c a b
      go (inl p) (inl q) r = absurd (sides_apart m c law a b some single j q.0.0 p.0.1)
      go (inl p) (inr (inl q)) r = absurd (omega (arith, q.1, f))
      go (inl p) (inr (inr q)) r =
          gained r (
            p.0.0,
            to_onwards m c law a b some single j k p.0.1 (sym q.2 ∙ f) (λ x y. q.1 (inl y, inl x)),
          )
      go (inr (inl p)) q r = absurd (omega (arith, p.1, e))
      go (inr (inr p)) (inl q) r =
          gained r (
            from_backwards m c law a b some single i j q.0.0 (sym p.2 ∙ e) (λ x y. p.1 (inl y, inl x)),
            q.0.1,
          )
      go (inr (inr p)) (inr (inl q)) r = absurd (omega (arith, q.1, f))
      go (inr (inr p)) (inr (inr q)) (inl r) = r.1
      go (inr (inr p)) (inr (inr q)) (inr (inl r)) =
          let x : c i j ≡ c a b = sym p.2 ∙ e in
          let y : c j k ≡ c a b = sym q.2 ∙ f in
          let z = never m c law a b some single i k r.0 (law.closed (c a b) i j k some x y) in
          absurd (single j (rw z.0 at x) (rw z.1 at y))
      go (inr (inr p)) (inr (inr q)) (inr (inr r)) =
          r.2 ∙ law.closed (c a b) i j k some (sym p.2 ∙ e) (sym q.2 ∙ f)

  other_closed :
      (h i j k : ℕ) → 0 < h → c a b ≢ h → reverse_table c a b i j ≡ h → reverse_table c a b j k ≡ h
      → reverse_table c a b i k ≡ h
  other_closed h i j k pos n e f = go (tell i j) (tell j k) (tell i k)
    where
      go :
          ReversedTells c a b some i j → ReversedTells c a b some j k → ReversedTells c a b some i k
          → reverse_table c a b i k ≡ h
      go (inl p) q r = absurd (n (sym p.1 ∙ e))
      go (inr (inl p)) q r = absurd (omega (arith, p.1, e))
      go (inr (inr p)) (inl q) r = absurd (n (sym q.1 ∙ f))
      go (inr (inr p)) (inr (inl q)) r = absurd (omega (arith, q.1, f))
      go (inr (inr p)) (inr (inr q)) r = meet r
        where
          x : c i j ≡ h
          x = sym p.2 ∙ e

          y : c j k ≡ h
          y = sym q.2 ∙ f

          two : TwoGraphs (c a b) h
          two =
              record {
                different = n;
                some = some;
                small = law.small a b;
                some' = pos;
                small' = rw x at (law.small i j);
              }

          meet : ReversedTells c a b some i k → reverse_table c a b i k ≡ h
          meet (inl r) =
              absurd (no_way_in h i j k two x y
              (neither j (λ t. q.0 (t, r.0.1)) (λ t. p.0 (r.0.0, t))) r.0)
          meet (inr (inl r)) =
              absurd (no_way_out h i j k two x y
              (neither j (λ t. p.1 (t, r.0.1)) (λ t. q.1 (r.0.0, t))) r.0)
          meet (inr (inr r)) = r.2 ∙ law.closed h i j k pos x y

  from_inside : (k : ℕ) → ReverseFrom c a b k → k < m
  from_inside k (inl e) = rw e (law.within a b some).1
  from_inside k (inr e) = (law.within k b (rw e.1 some)).0

  to_inside : (l : ℕ) → ReverseTo c a b l → l < m
  to_inside l (inl e) = rw e (law.within a b some).0
  to_inside l (inr e) = (law.within a l (rw e.1 some)).1

  -- a gained edge, and the other way none
  pub gained_edge : (i j : ℕ) → ReverseGains c a b i j → (reverse_table c a b i j ≡ c a b) × (reverse_table c a b j i ≡ 0)
  gained_edge i j g = (here (tell i j), back (tell j i))
    where
      clash : ReverseGains c a b j i → ⊥
      clash h = sides_apart m c law a b some single i g.0 h.1

      here : ReversedTells c a b some i j → reverse_table c a b i j ≡ c a b
      here (inl r) = r.1
      here (inr (inl r)) = absurd (clash r.0)
      here (inr (inr r)) = absurd (r.0 g)

      back : ReversedTells c a b some j i → reverse_table c a b j i ≡ 0
      back (inl r) = absurd (clash r.0)
      back (inr (inl r)) = r.1
      back (inr (inr r)) = absurd (r.1 g)

  -- where no edge is gained in either direction the code stays
  pub kept_code :
      (i j : ℕ) → (ReverseGains c a b i j → ⊥) → (ReverseGains c a b j i → ⊥) → reverse_table c a b i j ≡ c i j
  kept_code i j p q = go (tell i j)
    where
      go : ReversedTells c a b some i j → reverse_table c a b i j ≡ c i j
      go (inl r) = absurd (p r.0)
      go (inr (inl r)) = absurd (q r.0)
      go (inr (inr r)) = r.2

  pub reverse_feasible : FeasibleTable m (reverse_table c a b)
  reverse_feasible =
      record {
        few = law.few;
        small = λ i j. small i j (tell i j);
        within = λ i j h. within i j h (tell i j);
        apart = λ i. apart i (tell i i);
        joined = λ i j h k n. joined i j (tell i j) (law.joined i j h k n);
        oneway = λ i j h. oneway i j h (tell i j);
        closed = λ h i j k pos e f.
            elim (cases_eq (c a b) h) [
              | inl same ↦ own_closed i j k (e ∙ sym same) (f ∙ sym same) ∙ same
              | inr other ↦ other_closed h i j k pos other e f
            ];
      }
    where
      small : (i j : ℕ) → ReversedTells c a b some i j → reverse_table c a b i j ≤ 2
      small i j (inl r) = rw r.1 (law.small a b)
      small i j (inr (inl r)) = omega (arith, r.1)
      small i j (inr (inr r)) = rw r.2 (law.small i j)

      within : (i j : ℕ) → 0 < reverse_table c a b i j → ReversedTells c a b some i j → (i < m) × (j < m)
      within i j h (inl r) = (from_inside i r.0.0, to_inside j r.0.1)
      within i j h (inr (inl r)) = absurd (omega (arith, r.1))
      within i j h (inr (inr r)) = law.within i j (rw r.2 at h)

      apart : (i : ℕ) → ReversedTells c a b some i i → reverse_table c a b i i ≡ 0
      apart i (inl r) = absurd (sides_apart m c law a b some single i r.0.0 r.0.1)
      apart i (inr (inl r)) = r.1
      apart i (inr (inr r)) = r.2 ∙ law.apart i

      joined :
          (i j : ℕ) → ReversedTells c a b some i j → (0 < c i j) ⊎ (0 < c j i)
          → (0 < reverse_table c a b i j) ⊎ (0 < reverse_table c a b j i)
      joined i j (inl r) o = inl (rw r.1 some)
      joined i j (inr (inl r)) o = inr (rw (gained_edge j i r.0).0 some)
      joined i j (inr (inr r)) (inl o) = inl (rw r.2 o)
      joined i j (inr (inr r)) (inr o) = inr (rw (kept_code j i r.1 r.0) o)

      oneway : (i j : ℕ) → 0 < reverse_table c a b i j → ReversedTells c a b some i j → reverse_table c a b j i ≡ 0
      oneway i j h (inl r) = (gained_edge i j r.0).1
      oneway i j h (inr (inl r)) = absurd (omega (arith, r.1))
      oneway i j h (inr (inr r)) = kept_code j i r.1 r.0 ∙ law.oneway i j (rw r.2 at h)
