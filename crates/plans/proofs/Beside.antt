-- What follows for a third module from an edge that begins beside a module.
use Rattle.std.proofs.Common.{◌≡◌, ℕ, ◌<◌, ◌≤◌, ◌≢◌, ◌⊎◌, sym, ◌∙◌, inl, inr, arith}
use Rattle.plans.specs.Tables.{Table, FeasibleTable}

-- a table read against its edges
abbrev pub converse : Table → Table
converse c i j = c j i

pub converse_feasible : (m : ℕ) (c : Table) → FeasibleTable m c → FeasibleTable m (converse c)
converse_feasible m c law =
    record {
      few = law.few;
      small = λ i j. law.small j i;
      within = λ i j h. ((law.within j i h).1, (law.within j i h).0);
      apart = law.apart;
      joined = λ i j h k n. law.joined j i k h (λ e. n (sym e));
      oneway = λ i j h. law.oneway j i h;
      closed = λ g i j k h e f. law.closed g k j i h f e;
    }

-- f and g are the two graphs
pub record TwoGraphs (f g : ℕ) : Type 0 where
  pub different : f ≢ g
  pub some : 0 < f
  pub small : f ≤ 2
  pub some' : 0 < g
  pub small' : g ≤ 2

module _ (m : ℕ) (c : Table) (law : FeasibleTable m c) (f g : ℕ) (two : TwoGraphs f g) where
  -- two modules have one of four edges
  four_ways :
      (x y : ℕ) → x < m → y < m → y ≢ x → (c x y ≡ g) ⊎ ((c x y ≡ f) ⊎ ((c y x ≡ g) ⊎ (c y x ≡ f)))
  four_ways x y h k n =
      let s = law.small x y in
      let t = law.small y x in
      let d = two.different in
      elim (law.joined y x k h n) [ inl e ↦ grind arith | inr e ↦ grind arith ]

  -- an edge of g from x, or from a module with an edge of f to x, to a module j that has none of f to x
  pub beside_into :
      (x i j : ℕ) → x < m → (i ≡ x) ⊎ (c i x ≡ f) → c i j ≡ g → j ≢ x → (c j x ≡ f → ⊥) → c x j ≡ g
  beside_into x i j h (inl same) e n none = rw same at e
  beside_into x i j h (inr to) e n none =
      let p : 0 < c i j = omega (arith, two.some') in
      elim (four_ways x j h (law.within i j p).1 n) [
        | inl r ↦ r
        | inr (inl r) ↦ let z = law.closed f i x j two.some to r in absurd (two.different (sym z ∙ e))
        | inr (inr (inl r)) ↦ let z = law.closed g i j x two.some' e r in absurd (two.different (sym to ∙ z))
        | inr (inr (inr r)) ↦ absurd (none r)
      ]

  -- an edge of g from x, or from a module to which x has an edge of f, to a module j to which x has none of f
  pub beside_onto :
      (x i j : ℕ) → x < m → (i ≡ x) ⊎ (c x i ≡ f) → c i j ≡ g → j ≢ x → (c x j ≡ f → ⊥) → c x j ≡ g
  beside_onto x i j h (inl same) e n none = rw same at e
  beside_onto x i j h (inr to) e n none =
      let p : 0 < c i j = omega (arith, two.some') in
      let q : 0 < c x i = omega (arith, two.some) in
      let u = law.oneway x i q in
      let v = law.oneway i j p in
      elim (four_ways x j h (law.within i j p).1 n) [
        | inl r ↦ r
        | inr (inl r) ↦ absurd (none r)
        | inr (inr (inl r)) ↦
            let z = law.closed g i j x two.some' e r in
            absurd (omega (arith, two.some'))
        | inr (inr (inr r)) ↦
            let z = law.closed f j x i two.some r to in
            absurd (omega (arith, two.some))
      ]
