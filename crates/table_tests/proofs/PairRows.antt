-- The first pair in row order, found by looking for the first of each row.
use Rattle.std.proofs.Common.{◌≡◌, ℕ, ◌<◌, Bool, false, Some, None, Option, Ok, Err, Result, sym, refl, ap, ◌∙◌, subst, inl, inr}
use Rattle.std.specs.Option.{option_map}
use Rattle.std.specs.Prelude.{MatchOption}
use Rattle.std.proofs.lemmas.Bool.{cases_order, true≢false}
use Rattle.plans.proofs.Searches.{first_tells, first_pair_tells}
use Rattle.plans.specs.First.{IsFirst, IsFirstPair}
use Rattle.plans.specs.Changes.{unless}
use Rattle.plans.specs.Search.{first_below, first_pair}
use Rattle.plans.specs.Tests.{telling_pair}
use Rattle.plans.specs.declared.refusals.LoadRefusal.{LoadRefusal}
use Rattle.table_tests.specs.Rows.{FirstRow}

-- two pairs that both pass, with none before them that does, are one
pair_same :
    (p : ℕ → ℕ → Bool) (m : ℕ) (q r : ℕ × ℕ) → IsFirstPair p m (Some q) → IsFirstPair p m (Some r)
    → (q.0 ≡ r.0) × (q.1 ≡ r.1)
pair_same p m q r f g =
    let never : p q.0 q.1 ≡ false → (q.0 ≡ r.0) × (q.1 ≡ r.1) = λ e. absurd (true≢false (sym f.2 ∙ e)) in
    let never' : p r.0 r.1 ≡ false → (q.0 ≡ r.0) × (q.1 ≡ r.1) = λ e. absurd (true≢false (sym g.2 ∙ e)) in
    elim (cases_order q.0 r.0) [
      | inl e ↦
          elim (cases_order q.1 r.1) [
            | inl d ↦ (e, d)
            | inr (inl less) ↦ never (g.3 q.0 q.1 f.0 f.1 (inr (e, less)))
            | inr (inr more) ↦ never' (f.3 r.0 r.1 g.0 g.1 (inr (sym e, more)))
          ]
      | inr (inl less) ↦ never (g.3 q.0 q.1 f.0 f.1 (inl less))
      | inr (inr more) ↦ never' (f.3 r.0 r.1 g.0 g.1 (inl more))
    ]

pair_only : (p : ℕ → ℕ → Bool) (m : ℕ) (r s : Option (ℕ × ℕ)) → IsFirstPair p m r → IsFirstPair p m s → r ≡ s
pair_only p m (Some q) (Some r) f g =
    let e = pair_same p m q r f g in
    λ i. Some (e.0 i, e.1 i)
pair_only p m (Some q) None f g = absurd (true≢false (sym f.2 ∙ g q.0 q.1 f.0 f.1))
pair_only p m None (Some q) f g = absurd (true≢false (sym g.2 ∙ f q.0 q.1 g.0 g.1))
pair_only p m None None f g = refl

-- what is the first pair is what is found
pub first_pair_is : (p : ℕ → ℕ → Bool) (m : ℕ) (r : Option (ℕ × ℕ)) → IsFirstPair p m r → r ≡ first_pair m p
first_pair_is p m r f = pair_only p m r (first_pair m p) f (first_pair_tells m p)

-- where a row's first is known
pub row_is : (q : ℕ → Bool) (m : ℕ) (r : Option ℕ) → r ≡ first_below m q → IsFirst q m r
row_is q m r e = subst (IsFirst q m) (sym e) (first_tells q m)

-- so what is found going through the rows is the first pair, where each row gives its first
pub first_rows :
    (p : ℕ → ℕ → Bool) (m : ℕ) (gives : ℕ → Option ℕ → Type 0) (r : Option (ℕ × ℕ)) → FirstRow m gives r
    → ((i : ℕ) (r : Option ℕ) → i < m → gives i r → r ≡ first_below m (p i)) → r ≡ first_pair m p
first_rows p m gives (Some q) found rows =
    let f = found.first in
    let here = row_is (p q.0) m (Some q.1) (rows q.0 (Some q.1) f.0 f.1) in
    first_pair_is p m (Some q) (
      f.0,
      here.0,
      here.1,
      λ k l g i b.
          elim b [
            | inl less ↦ row_is (p k) m None (rows k None g (f.2 k less)) l i
            | inr (same, less) ↦ rw same (here.2 l less)
          ],
    )
first_rows p m gives None found rows =
    first_pair_is p m None (λ k l g i. row_is (p k) m None (rows k None g (found.first k g)) l i)

-- a refusal that tells what is found, as a pair
pub told_as :
    {X : Type 0} (refusal : ℕ → ℕ → LoadRefusal) (pair : X → ℕ × ℕ) (r : Option X) (s : Option (ℕ × ℕ))
    (z : Result (Unit {0}) LoadRefusal) (gives : X → Type 0) → MatchOption r (z ≡ Ok (tt {0})) gives
    → ((x : X) → gives x → z ≡ Err (refusal (pair x).0 (pair x).1)) → option_map pair r ≡ s
    → z ≡ unless (telling_pair refusal s) (tt {0})
told_as refusal pair (Some x) s z gives d f e = f x d ∙ ap (λ o. unless (telling_pair refusal o) (tt {0})) e
told_as refusal pair None s z gives d f e = d ∙ ap (λ o. unless (telling_pair refusal o) (tt {0})) e

-- and one that tells the pair that is found
pub told :
    (refusal : ℕ → ℕ → LoadRefusal) (r s : Option (ℕ × ℕ)) (z : Result (Unit {0}) LoadRefusal) (gives : ℕ × ℕ → Type 0)
    → MatchOption r (z ≡ Ok (tt {0})) gives → ((q : ℕ × ℕ) → gives q → z ≡ Err (refusal q.0 q.1)) → r ≡ s
    → z ≡ unless (telling_pair refusal s) (tt {0})
told refusal (Some q) s = told_as refusal (λ (q : ℕ × ℕ). q) (Some q) s
told refusal None s = told_as refusal (λ (q : ℕ × ℕ). q) None s
