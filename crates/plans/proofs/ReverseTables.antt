-- A reverse of a reduction edge in a feasible table, and what the reversed table has.
use Rattle.std.proofs.Common.{◌≡◌, ℕ, ◌<◌, Bool, cond, not, ◌&&◌, ◌||◌, eqb, ◌≢◌, ◌⊎◌, refl, ◌∙◌, inl, inr, arith}
use Rattle.std.proofs.lemmas.Bool.{cases_eq, ne_eqb}
use Rattle.std.proofs.lemmas.Bool.Decides.{nat_tests}
use Rattle.plans.proofs.Accepted.{Single}
use Rattle.plans.proofs.Tellings.{Tells, both_tell}
use Rattle.plans.specs.Changes.{reverse_table, without_edge, up_to, on_from}
use Rattle.plans.specs.ChangesInWords.{ReverseFrom, ReverseTo, ReverseGains}
use Rattle.plans.specs.Tables.{Table, FeasibleTable}

-- k is x, or is not y and has the code g
side_tells :
    (k x y code g : ℕ) → 0 < g → (t : Bool) → t ≡ (eqb k x || eqb (cond (eqb k y) 0 code) g)
    → Tells t ((k ≡ x) ⊎ ((k ≢ y) × (code ≡ g)))
side_tells k x y code g h t is =
    elim (cases_eq k x) [
      | inl e ↦ inl (grind (arith, nat_tests), inl e)
      | inr e ↦
          elim (cases_eq k y) [
            | inl f ↦ inr (grind (arith, nat_tests), elim [ inl d ↦ e d | inr d ↦ d.0 f ])
            | inr f ↦
                elim (cases_eq code g) [
                  | inl d ↦ inl (grind (arith, nat_tests), inr (f, d))
                  | inr d ↦ inr (grind (arith, nat_tests), elim [ inl u ↦ e u | inr u ↦ d u.1 ])
                ]
          ]
    ]

module _ (c : Table) (a b : ℕ) (some : 0 < c a b) where
  from_test : ℕ → Bool
  from_test k = up_to (without_edge c a b) (c a b) b k

  to_test : ℕ → Bool
  to_test l = on_from (without_edge c a b) (c a b) a l

  from_tells : (k : ℕ) → Tells (from_test k) (ReverseFrom c a b k)
  unfolding from_test
  from_tells k = side_tells k b a (c k b) (c a b) some (from_test k) (grind (arith, nat_tests))

  to_tells : (l : ℕ) → Tells (to_test l) (ReverseTo c a b l)
  unfolding to_test
  to_tells l = side_tells l a b (c a l) (c a b) some (to_test l) (grind (arith, nat_tests))

  gain_test : ℕ → ℕ → Bool
  gain_test k l = from_test k && to_test l

  gain_tells : (k l : ℕ) → Tells (gain_test k l) (ReverseGains c a b k l)
  unfolding gain_test
  gain_tells k l = both_tell (from_tells k) (to_tells l)

  -- the three kinds of code afterwards
  abbrev pub ReversedTells : ℕ → ℕ → Type 0
  ReversedTells i j =
      (ReverseGains c a b i j × (reverse_table c a b i j ≡ c a b))
      ⊎ ((ReverseGains c a b j i × (reverse_table c a b i j ≡ 0))
      ⊎ ((ReverseGains c a b i j → ⊥) × (ReverseGains c a b j i → ⊥) × (reverse_table c a b i j ≡ c i j)))

  reversed_is :
      (i j : ℕ) → reverse_table c a b i j ≡
      cond (gain_test i j) (c a b)
      (cond (gain_test j i && not (eqb (without_edge c a b i j) (c a b))) 0 (without_edge c a b i j))
  unfolding gain_test from_test to_test
  reversed_is i j = refl

  without_tells :
      (i j : ℕ) → ((i ≡ a) × (j ≡ b) × (without_edge c a b i j ≡ 0))
      ⊎ ((i ≡ a → j ≡ b → ⊥) × (without_edge c a b i j ≡ c i j))
  without_tells i j =
      elim (cases_eq i a) [
        | inl e ↦
            elim (cases_eq j b) [
              | inl f ↦ inl (e, f, grind (arith, nat_tests))
              | inr f ↦ inr (λ x y. f y, grind (arith, nat_tests))
            ]
        | inr e ↦ inr (λ x y. e x, grind (arith, nat_tests))
      ]

  -- an edge gained against one of this graph would be against (a, b) itself
  Never : ℕ → ℕ → Type 0
  Never i j = ReverseGains c a b j i → c i j ≡ c a b → (i ≡ a) × (j ≡ b)

  reversed_tells : (i j : ℕ) → Never i j → ReversedTells i j
  unfolding Never
  reversed_tells i j never =
      let is = reversed_is i j in
      elim (gain_tells i j) [
        | inl p ↦ inl (p.1, is ∙ rw p.0 refl)
        | inr p ↦
            elim (gain_tells j i) [
              | inl q ↦
                  let n = never q.1 in
                  let w = without_tells i j in
                  let z : without_edge c a b i j ≢ c a b = λ e. grind arith in
                  inr (inl (q.1, is ∙ rw (p.0, q.0, ne_eqb (without_edge c a b i j) (c a b) z) refl))
              | inr q ↦
                  inr (inr (
                    p.1,
                    q.1,
                    is ∙ rw (p.0, q.0)
                        (elim (without_tells i j) [
                          | inl w ↦ absurd (q.1 (inl w.1, inl w.0))
                          | inr w ↦ w.1
                        ]),
                  ))
            ]
      ]

module _ (m : ℕ) (c : Table) (law : FeasibleTable m c) (a b : ℕ) (some : 0 < c a b) (single : Single c a b) where
  -- no module is on both sides
  pub sides_apart : (k : ℕ) → ReverseFrom c a b k → ReverseTo c a b k → ⊥
  sides_apart k (inl e) (inl f) = let s = law.apart a in grind arith
  sides_apart k (inl e) (inr f) = f.0 e
  sides_apart k (inr e) (inl f) = e.0 f
  sides_apart k (inr e) (inr f) = single k f.1 e.1

  -- an edge of this graph leads on from the second side to it
  pub to_onwards :
      (j k : ℕ) → ReverseTo c a b j → c j k ≡ c a b → (j ≡ a → k ≡ b → ⊥) → ReverseTo c a b k
  to_onwards j k (inl e) f n = inr (λ g. n e g, rw e at f)
  to_onwards j k (inr e) f n =
      inr (λ g. single j e.1 (rw g at f), law.closed (c a b) a j k some e.1 f)

  -- and back from the first side to it
  pub from_backwards :
      (i j : ℕ) → ReverseFrom c a b j → c i j ≡ c a b → (i ≡ a → j ≡ b → ⊥) → ReverseFrom c a b i
  from_backwards i j (inl e) f n = inr (λ g. n g e, rw e at f)
  from_backwards i j (inr e) f n =
      inr (λ g. single j (rw g at f) e.1, law.closed (c a b) i j b some f e.1)

  pub never : (i j : ℕ) → ReverseGains c a b j i → c i j ≡ c a b → (i ≡ a) × (j ≡ b)
  never i j g e =
      elim (cases_eq i a) [
        | inl h ↦
            elim (cases_eq j b) [
              | inl k ↦ (h, k)
              | inr k ↦ absurd (sides_apart j g.0 (to_onwards i j g.1 e (λ x y. k y)))
            ]
        | inr h ↦ absurd (sides_apart j g.0 (to_onwards i j g.1 e (λ x y. h x)))
      ]

  pub reversed : (i j : ℕ) → ReversedTells c a b some i j
  unfolding Never
  reversed i j = reversed_tells c a b some i j (never i j)
