-- The tests of codes at the places of a flat table.
use Rattle.std.proofs.Common.{◌≡◌, ℕ, ◌*◌, ◌/◌, ◌%◌, ◌<◌, ◌≤◌, Bool, true, false, cond, not, ltb, List, length, get_or, Some, None, Option, sym, refl, ap, ◌∙◌, inl, inr, arith}
use mathlib.Core.Bool.{beq}
use Rattle.std.specs.Option.{option_map}
use Rattle.std.specs.Prelude.{MatchOption}
use Rattle.std.specs.List.{AllWithin, HoldsAt}
use Rattle.std.proofs.lemmas.Bool.{cases_eq, cases_lt, eq-eqb, ne_eqb, lt-ltb, le-ltb}
use Rattle.plans.proofs.Searches.{first_is}
use Rattle.plans.proofs.TableLists.{code_at}
use Rattle.plans.specs.First.{IsFirst}
use Rattle.plans.specs.Search.{first_pair}
use Rattle.plans.specs.Tables.{Table, table_of}
use Rattle.plans.specs.Tests.{code_wrong, self_related, not_one_edge}
use Rattle.table_tests.proofs.PairRows.{first_pair_is}

module _ (g m : ℕ) (codes : List ℕ) (full : length codes ≡ m * m) where
  -- whether the code at a place is too great
  abbrev great : ℕ → Bool
  great k = code_wrong g (table_of m codes) (k / m) (k % m)

  great_at : (k : ℕ) → k < m * m → great k ≡ ltb g (get_or codes k 0)
  great_at k h = ap (ltb g) (sym (code_at m codes k h))

  -- the first code that is too great is told by its row and column
  pub great_first :
      (r : Option ℕ)
      → MatchOption r (AllWithin (λ x. ltb g x ≡ false) codes 0 (length codes))
      (λ k. (k < length codes) × HoldsAt (λ x. ltb g x ≡ true) codes k × AllWithin (λ x. ltb g x ≡ false) codes 0 k)
      → option_map (λ k. (k / m, k % m)) r ≡ first_pair m (code_wrong g (table_of m codes))
  great_first r f = sym (ap (option_map (λ k. (k / m, k % m))) (first_is great (m * m) r (settle r f)))
    where
      settle :
          (r : Option ℕ)
          → MatchOption r (AllWithin (λ x. ltb g x ≡ false) codes 0 (length codes))
          (λ k. (k < length codes) × HoldsAt (λ x. ltb g x ≡ true) codes k × AllWithin (λ x. ltb g x ≡ false) codes 0 k)
          → IsFirst great (m * m) r
      settle (Some k) f =
          let inside : k < m * m = omega (arith, f.0) in (
            inside,
            great_at k inside ∙ f.1 0,
            λ l h. great_at l (omega arith) ∙ f.2 l 0 (omega arith) h,
          )
      settle None f = λ l h. great_at l h ∙ f l 0 (omega arith) (omega arith)

-- off the diagonal no pair is related to itself, and on it where its module is
off : (c : Table) (k l : ℕ) → (k ≡ l → ltb 0 (c k k) ≡ false) → self_related c k l ≡ false
off c k l none =
    elim (cases_eq k l) [
      | inl same ↦ rw (sym same, eq-eqb k k refl, none same) refl
      | inr other ↦ rw (ne_eqb k l other) refl
    ]

-- the first module that is related to itself, as a pair
pub diagonal_first :
    (c : Table) (m : ℕ) (r : Option ℕ) → IsFirst (λ i. ltb 0 (c i i)) m r
    → option_map (λ i. (i, i)) r ≡ first_pair m (self_related c)
diagonal_first c m (Some i) f =
    first_pair_is (self_related c) m (Some (i, i)) (
      f.0,
      f.0,
      rw (eq-eqb i i refl, f.1) refl,
      λ k l g h b. off c k l (λ same. elim b [ inl less ↦ f.2 k less | inr (e, less) ↦ absurd (omega arith) ]),
    )
diagonal_first c m None f = first_pair_is (self_related c) m None (λ k l g h. off c k l (λ same. f k g))

-- with one edge and no more, exactly one of the two codes is not 0
beq_is : (x y : Bool) → beq x y ≡ cond x y (not y)
beq_is true true = refl
beq_is true false = refl
beq_is false true = refl
beq_is false false = refl

-- the test of a pair, of two modules in their order
pub pair_at :
    (c : Table) (i j : ℕ) → i < j → not_one_edge c i j ≡ beq (ltb 0 (c i j)) (ltb 0 (c j i))
pair_at c i j less = rw (lt-ltb i j less) (sym (beq_is (ltb 0 (c i j)) (ltb 0 (c j i))))

pub pair_low : (c : Table) (i j : ℕ) → j ≤ i → not_one_edge c i j ≡ false
pair_low c i j l = rw (le-ltb i j l) refl

-- what is found from a on is first, where nothing before a passes
pub range_first :
    (p q : ℕ → Bool) (a n : ℕ) (r : Option ℕ) → ((k : ℕ) → k < a → p k ≡ false) → ((k : ℕ) → a ≤ k → k < n → p k ≡ q k)
    → MatchOption r ((k : ℕ) → a ≤ k → k < n → q k ≡ false)
    (λ i. (a ≤ i) × (i < n) × (q i ≡ true) × ((k : ℕ) → a ≤ k → k < i → q k ≡ false))
    → IsFirst p n r
range_first p q a n (Some i) low same f = (
  f.1,
  same i f.0 f.1 ∙ f.2,
  λ l h. elim (cases_lt l a) [ inl g ↦ low l g | inr g ↦ same l g (omega (arith, f.1)) ∙ f.3 l g h ],
)
range_first p q a n None low same f =
    λ l h. elim (cases_lt l a) [ inl g ↦ low l g | inr g ↦ same l g h ∙ f l g h ]
