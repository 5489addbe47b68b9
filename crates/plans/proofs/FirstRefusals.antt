-- The first refusal of a call, from the tests made one after another.
use Rattle.std.proofs.Common.{◌≡◌, ℕ, suc, ◌<◌, ◌≤◌, ◌⊎◌, Bool, true, false, List, [], ◌∷◌, get_or, Some, None, Option, refl, ap, ◌∙◌, subst, inl, inr, arith}
use Rattle.std.specs.Option.{option_map}
use Rattle.std.proofs.lemmas.Bool.{cases_lt}
use Rattle.plans.proofs.Searches.{first_tells, first_pair_tells}
use Rattle.plans.specs.First.{IsFirst, IsFirstPair, RowBefore}
use Rattle.plans.specs.FirstRefusals.{Earlier, FirstRefusal}
use Rattle.plans.specs.Search.{or_else, refusing, first_below, first_pair}

module _ {E : Type 0} (rank : E → ℕ) (told : E → List ℕ) (Applies : E → Type 0) where
  -- the first of the refusals with ranks from lo up to hi, or none of them applies
  abbrev pub Settles : ℕ → ℕ → Option E → Type 0
  Settles lo hi (Some e) =
      (lo ≤ rank e) × (rank e < hi) × Applies e
      × ((f : E) → lo ≤ rank f → Earlier rank told Applies f e → Applies f → ⊥)
  Settles lo hi None = (f : E) → lo ≤ rank f → rank f < hi → Applies f → ⊥

  -- one range of tests and then the next
  pub settles_then :
      (lo mid hi : ℕ) (r s : Option E) → lo ≤ mid → mid ≤ hi → Settles lo mid r → Settles mid hi s
      → Settles lo hi (or_else r s)
  settles_then lo mid hi (Some e) s h k a b = (a.0, omega (arith, a.1), a.2, a.3)
  settles_then lo mid hi None (Some e) h k a b = (
    omega (arith, b.0),
    b.1,
    b.2,
    λ f g early applies.
        elim (cases_lt (rank f) mid) [ inl less ↦ a f g less applies | inr more ↦ b.3 f more early applies ],
  )
  settles_then lo mid hi None None h k a b =
      λ f g l applies. elim (cases_lt (rank f) mid) [ inl less ↦ a f g less applies | inr more ↦ b f more l applies ]

  -- all the ranks
  pub settles_all :
      (lo hi : ℕ) (r : Option E) → ((f : E) → (lo ≤ rank f) × (rank f < hi)) → Settles lo hi r
      → FirstRefusal rank told Applies r
  settles_all lo hi (Some e) within a = (a.2, λ f early applies. a.3 f (within f).0 early applies)
  settles_all lo hi None within a = λ f applies. a f (within f).0 (within f).1 applies

  -- a test for one refusal that tells nothing
  pub settles_test :
      (n : ℕ) (e : E) (b : Bool) → rank e ≡ n → told e ≡ [] → ((f : E) → rank f ≡ n → f ≡ e)
      → (b ≡ true → Applies e) → (Applies e → b ≡ true) → Settles n (suc n) (refusing b e)
  settles_test n e true p t only does must = (
    omega (arith, p),
    omega (arith, p),
    does refl,
    λ f g early applies. elim early [ inl less ↦ omega (arith, p, less) | inr same ↦ alone f same ],
  )
    where
      alone :
          (f : E)
          → (rank f ≡ rank e)
          × RowBefore (get_or (told f) 0 0) (get_or (told f) 1 0) (get_or (told e) 0 0) (get_or (told e) 1 0) → ⊥
      alone f same =
          let u : f ≡ e = only f (same.0 ∙ p) in
          let v : told f ≡ [] = ap told u ∙ t in
          elim (rw (t, v) at same.1) [ inl less ↦ omega (arith, less) | inr more ↦ omega (arith, more.1) ]
  settles_test n e false p t only does must =
      λ f g l applies.
      let u : f ≡ e = only f (omega arith) in
      let v : false ≡ true = must (subst Applies u applies) in
      absurd (grind arith)

  -- a test at each place below n, which the refusal tells
  pub settles_place :
      (n : ℕ) (C : ℕ → E) (m : ℕ) (passes : ℕ → Bool) → ((k : ℕ) → rank (C k) ≡ n) → ((k : ℕ) → told (C k) ≡ k ∷ [])
      → ((f : E) → rank f ≡ n → f ≡ C (get_or (told f) 0 0)) → ((k : ℕ) → k < m → passes k ≡ true → Applies (C k))
      → ((k : ℕ) → Applies (C k) → (k < m) × (passes k ≡ true)) → Settles n (suc n) (option_map C (first_below m passes))
  settles_place n C m passes p t only does must = found (first_below m passes) (first_tells passes m)
    where
      found : (r : Option ℕ) → IsFirst passes m r → Settles n (suc n) (option_map C r)
      found (Some k) first = (
        omega (arith, p k),
        omega (arith, p k),
        does k first.0 first.1,
        λ f g early applies.
            let u : rank f ≡ n = elim early [ inl less ↦ absurd (omega (arith, less, p k)) | inr same ↦ same.0 ∙ p k ] in
            let l = get_or (told f) 0 0 in
            let v = must l (subst Applies (only f u) applies) in
            elim early [
              | inl less ↦ omega (arith, less, p k)
              | inr same ↦
                  elim (rw (t k) at same.1) [
                    | inl less ↦ let w = first.2 l less in absurd (grind arith)
                    | inr more ↦ let w = ap (λ x. get_or x 1 0) (ap told (only f u) ∙ t l) in omega (arith, more.1, w)
                  ]
            ],
      )
      found None first =
          λ f g l applies.
          let v = must (get_or (told f) 0 0) (subst Applies (only f (omega arith)) applies) in
          let w = first (get_or (told f) 0 0) v.0 in
          absurd (grind arith)

  -- a test at each pair below m, in row order, which the refusal tells
  pub settles_pair :
      (n : ℕ) (C : ℕ → ℕ → E) (m : ℕ) (passes : ℕ → ℕ → Bool) → ((i j : ℕ) → rank (C i j) ≡ n)
      → ((i j : ℕ) → told (C i j) ≡ i ∷ j ∷ []) → ((f : E) → rank f ≡ n → f ≡ C (get_or (told f) 0 0) (get_or (told f) 1 0))
      → ((i j : ℕ) → i < m → j < m → passes i j ≡ true → Applies (C i j))
      → ((i j : ℕ) → Applies (C i j) → (i < m) × (j < m) × (passes i j ≡ true))
      → Settles n (suc n) (option_map (λ q. C q.0 q.1) (first_pair m passes))
  settles_pair n C m passes p t only does must = found (first_pair m passes) (first_pair_tells m passes)
    where
      found :
          (r : Option (ℕ × ℕ)) → IsFirstPair passes m r → Settles n (suc n) (option_map (λ q. C q.0 q.1) r)
      found (Some q) first = (
        omega (arith, p q.0 q.1),
        omega (arith, p q.0 q.1),
        does q.0 q.1 first.0 first.1 first.2,
        λ f g early applies.
            elim early [
              | inl less ↦ omega (arith, less, p q.0 q.1)
              | inr same ↦
                  let u : rank f ≡ n = same.0 ∙ p q.0 q.1 in
                  let k = get_or (told f) 0 0 in
                  let l = get_or (told f) 1 0 in
                  let v = must k l (subst Applies (only f u) applies) in
                  let w = first.3 k l v.0 v.1 (rw (t q.0 q.1) at same.1) in
                  absurd (grind arith)
            ],
      )
      found None first =
          λ f g l applies.
          let i = get_or (told f) 0 0 in
          let j = get_or (told f) 1 0 in
          let v = must i j (subst Applies (only f (omega arith)) applies) in
          let w = first i j v.0 v.1 in
          absurd (grind arith)

-- refusals of one call within those of another
pub settles_within :
    {E F : Type 0} (rank : E → ℕ) (told : E → List ℕ) (Applies : E → Type 0) (rank' : F → ℕ) (told' : F → List ℕ)
    (Applies' : F → Type 0) (C : E → F) (lo hi : ℕ) → ((e : E) → rank' (C e) ≡ rank e) → ((e : E) → told' (C e) ≡ told e)
    → ((f : F) → rank' f < hi → (e : E) × (f ≡ C e)) → ((e : E) → Applies e → Applies' (C e)) → ((e : E) → Applies' (C e) → Applies e)
    → (r : Option E) → Settles rank told Applies lo hi r → Settles rank' told' Applies' lo hi (option_map C r)
settles_within {E} {F} rank told Applies rank' told' Applies' C lo hi n t only does must (Some e) s = (
  omega (arith, n e, s.0),
  omega (arith, n e, s.1),
  does e s.2,
  λ f g early applies.
      let less : rank' f < hi =
      elim early [ inl a ↦ omega (arith, a, n e, s.1) | inr a ↦ omega (arith, a.0, n e, s.1) ] in
      let (x, same) = only f less in
      let a : Applies x = must x (subst Applies' same applies) in
      let k : rank' f ≡ rank x = ap rank' same ∙ n x in
      let v : told' f ≡ told x = ap told' same ∙ t x in
      s.3 x (omega (arith, k, g))
      (elim early [ inl b ↦ inl (omega (arith, b, k, n e)) | inr b ↦ inr (omega (arith, b.0, k, n e), rw (v, t e) at b.1) ])
      a,
)
settles_within {E} {F} rank told Applies rank' told' Applies' C lo hi n t only does must None s =
    λ f g l applies.
    let (x, same) = only f l in
    let k : rank' f ≡ rank x = ap rank' same ∙ n x in
    s x (omega (arith, k, g)) (omega (arith, k, l)) (must x (subst Applies' same applies))

-- nothing after the last test applies
pub settles_last :
    {E : Type 0} (rank : E → ℕ) (told : E → List ℕ) (Applies : E → Type 0) (lo mid hi : ℕ) (r : Option E) → lo ≤ mid → mid ≤ hi
    → Settles rank told Applies lo mid r → ((f : E) → mid ≤ rank f → Applies f → ⊥) → Settles rank told Applies lo hi r
settles_last rank told Applies lo mid hi (Some e) h k s none = (s.0, omega (arith, s.1), s.2, s.3)
settles_last rank told Applies lo mid hi None h k s none =
    λ f g l applies. elim (cases_lt (rank f) mid) [ inl less ↦ s f g less applies | inr more ↦ none f more applies ]

-- refusals that apply to one thing come before those that apply to another: the first of one, or else of the other
pub first_of_two :
    {E : Type 0} (rank : E → ℕ) (told : E → List ℕ) (Applies Applies' : E → Type 0)
    → ((e f : E) → Applies e → Applies' f → rank e < rank f) → (r s : Option E) → FirstRefusal rank told Applies r
    → FirstRefusal rank told Applies' s → FirstRefusal rank told (λ e. Applies e ⊎ Applies' e) (or_else r s)
first_of_two rank told Applies Applies' order (Some e) s a b = (
  inl a.0,
  λ f early applies.
      elim applies [
        | inl own ↦ a.1 f early own
        | inr other ↦
            let less = order e f a.0 other in
            elim early [ inl before ↦ omega arith | inr same ↦ omega (arith, same.0) ]
      ],
)
first_of_two rank told Applies Applies' order None (Some e) a b = (
  inr b.0,
  λ f early applies. elim applies [ inl own ↦ a f own | inr other ↦ b.1 f early other ],
)
first_of_two rank told Applies Applies' order None None a b =
    λ f applies. elim applies [ inl own ↦ a f own | inr other ↦ b f other ]
