-- Lists that name each number below a bound once, and the places of the numbers in them.
use Rattle.std.proofs.Common.{◌≡◌, ℕ, ◌<◌, Bool, true, ltb, List, get_or, sym, ap, ◌∙◌, inl, inr, arith}
use Rattle.std.proofs.lemmas.Bool.{true≢false, cases_Bool, cases_order, lt-ltb, le-ltb}
use Rattle.plans.proofs.Pigeonhole.{Different}
use Rattle.plans.proofs.Places as places
use Rattle.plans.proofs.Places.{place_of_module}
use Rattle.plans.specs.Orders.{TotalOrder, RunsAlong}
use Rattle.plans.specs.PairLaw.{NamesEach}
use Rattle.plans.specs.Search.{place_of}

module _ (m : ℕ) (s : List ℕ) (n : NamesEach m s) where
  -- each number has a place, and stands there; the number at a place has that place
  different : Different m (λ k. get_or s k 0)
  different = record { below = n.modules; once = n.once }

  pub place_of_lem : (i : ℕ) → i < m → (place_of s i < m) × (get_or s (place_of s i) 0 ≡ i)
  place_of_lem = place_of_module m s n.long different

  pub place_at : (k : ℕ) → k < m → place_of s (get_or s k 0) ≡ k
  place_at = places.place_at m s n.long different

  -- and no two have one place
  pub place_once : (i j : ℕ) → i < m → j < m → place_of s i ≡ place_of s j → i ≡ j
  place_once i j h k e =
      sym (place_of_lem i h).1 ∙ ap (λ x. get_or s x 0) e ∙ (place_of_lem j k).1

-- a list along an order names each number once
pub runs_names : (m : ℕ) (before : ℕ → ℕ → Bool) (s : List ℕ) → RunsAlong m before s → NamesEach m s
runs_names m before s r = record { long = r.long; modules = r.modules; once = r.once }

module _ (m : ℕ) (before : ℕ → ℕ → Bool) (o : TotalOrder m before) (s : List ℕ) (r : RunsAlong m before s) where
  abbrev named : NamesEach m s
  named = runs_names m before s r

  before_places : (i j : ℕ) → i < m → j < m → before i j ≡ true → place_of s i < place_of s j
  before_places i j h k e =
      let p = place_of_lem m s named i h in
      let q = place_of_lem m s named j k in
      r.forward (place_of s i) (place_of s j) p.0 q.0 (rw (p.1, q.1) e)

  -- in a list along a total order, one number stands earlier than another exactly when it is before it
  pub places_tell : (i j : ℕ) → i < m → j < m → ltb (place_of s i) (place_of s j) ≡ before i j
  places_tell i j h k =
      elim (cases_Bool (before i j)) [
        | inl e ↦ lt-ltb (place_of s i) (place_of s j) (before_places i j h k e) ∙ sym e
        | inr e ↦
            le-ltb (place_of s i) (place_of s j)
            (elim (cases_order (place_of s i) (place_of s j)) [
              | inl same ↦ omega arith
              | inr (inl less) ↦
                  elim (o.total i j h k (λ w. let z = ap (place_of s) w in omega arith)) [
                    | inl f ↦ absurd (true≢false (sym f ∙ e))
                    | inr f ↦ absurd (omega (arith, before_places j i k h f))
                  ]
              | inr (inr more) ↦ omega arith
            ])
            ∙ sym e
      ]
