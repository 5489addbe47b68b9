-- The list by counting runs along a total order, and no other list does.
use Rattle.std.proofs.Common.{◌≡◌, ℕ, ◌<◌, Bool, true, eqb, List, get_or, Some, None, Option, unwrap_or, sym, refl, ap, ◌∙◌, inl, inr, arith}
use Rattle.std.proofs.lemmas.List.FromFn.{length-map-range_with_len, get_or-map-range_with_len}
use Rattle.std.proofs.lemmas.List.{same_lists, get_or_default}
use Rattle.std.proofs.lemmas.Bool.{cases_eq, eq-eqb, eqb-true}
use Rattle.plans.proofs.Pigeonhole.{all_found, rising_same}
use Rattle.plans.proofs.Searches.{first_tells, count_le, count_less}
use Rattle.plans.specs.First.{IsFirst}
use Rattle.plans.specs.Orders.{TotalOrder, RunsAlong, CountingOrders}
use Rattle.plans.specs.Search.{first_below}
use Rattle.plans.specs.Sequences.{count_before, ordered_by}

module _ (m : ℕ) (before : ℕ → ℕ → Bool) (o : TotalOrder m before) where
  -- what is before counts fewer
  count_rises : (i j : ℕ) → i < m → j < m → before i j ≡ true → count_before m before i < count_before m before j
  count_rises i j h k e =
      count_less m (λ x. before x i) (λ x. before x j) i h (o.strict i h) e
      (λ x l f. o.transitive x i j l h k f e)

  count_below_lem : (i : ℕ) → i < m → count_before m before i < m
  count_below_lem i h =
      let less = count_less m (λ x. before x i) (λ x. true) i h (o.strict i h) refl (λ x l f. refl) in
      omega (arith, less, count_le m (λ x. true))

  count_once : (i j : ℕ) → i < m → j < m → count_before m before i ≡ count_before m before j → i ≡ j
  count_once i j h k e =
      elim (cases_eq i j) [
        | inl same ↦ same
        | inr other ↦
            elim (o.total i j h k other) [
              | inl f ↦ absurd (omega (arith, count_rises i j h k f, e))
              | inr f ↦ absurd (omega (arith, count_rises j i k h f, e))
            ]
      ]

  -- the number that counts k before it
  Counts : ℕ → ℕ → Type 0
  Counts k x = (x < m) × (count_before m before x ≡ k)

  first_counts :
      (k : ℕ) (r : Option ℕ) → IsFirst (λ i. eqb (count_before m before i) k) m r
      → ((x : ℕ) × (x < m) × (count_before m before x ≡ k)) → Counts k (unwrap_or r 0)
  unfolding Counts
  first_counts k (Some y) f there = (f.0, eqb-true (count_before m before y) k f.1)
  first_counts k None f (x, h, e) = absurd (let n = f x h in let y = eq-eqb (count_before m before x) k e in grind arith)

  entry_counts : (k : ℕ) → k < m → Counts k (get_or (ordered_by m before) k 0)
  entry_counts k h =
      let there =
      all_found m (count_before m before) (record { below = count_below_lem; once = count_once }) k h
      in
      let found =
      first_counts k (first_below m (λ i. eqb (count_before m before i) k))
      (first_tells (λ i. eqb (count_before m before i) k) m) there
      in
      rw (get_or-map-range_with_len (λ k. unwrap_or (first_below m (λ i. eqb (count_before m before i) k)) 0) 0 m k k 0 h (omega arith)) found

  entry_below : (k : ℕ) → k < m → get_or (ordered_by m before) k 0 < m
  unfolding Counts
  entry_below k h = (entry_counts k h).0

  entry_count : (k : ℕ) → k < m → count_before m before (get_or (ordered_by m before) k 0) ≡ k
  unfolding Counts
  entry_count k h = (entry_counts k h).1

  ordered_runs : RunsAlong m before (ordered_by m before)
  ordered_runs =
      record {
        long = length-map-range_with_len (λ k. unwrap_or (first_below m (λ i. eqb (count_before m before i) k)) 0) 0 m;
        modules = entry_below;
        once = λ k l h i e. sym (entry_count k h) ∙ ap (count_before m before) e ∙ entry_count l i;
        forward = λ k l h i e.
            let less =
            count_rises (get_or (ordered_by m before) k 0) (get_or (ordered_by m before) l 0) (entry_below k h) (entry_below l i) e
            in
            omega (arith, less, entry_count k h, entry_count l i);
      }

  -- in a list along the order, what stands earlier is before
  runs_earlier :
      (s : List ℕ) → RunsAlong m before s → (k l : ℕ) → k < l → l < m → before (get_or s k 0) (get_or s l 0) ≡ true
  runs_earlier s r k l h i =
      let once = r.once k l (omega arith) i in
      elim (o.total (get_or s k 0) (get_or s l 0) (r.modules k (omega arith)) (r.modules l i) (λ e. absurd (omega (arith, once e)))) [
        | inl e ↦ e
        | inr e ↦ absurd (omega (arith, r.forward l k i (omega arith) e))
      ]

  -- and each number counts its place
  runs_count : (s : List ℕ) → RunsAlong m before s → (k : ℕ) → k < m → count_before m before (get_or s k 0) ≡ k
  runs_count s r =
      rising_same m (λ k. count_before m before (get_or s k 0))
      (record {
        below = λ k h. count_below_lem (get_or s k 0) (r.modules k h);
        rises = λ k l h i.
            count_rises (get_or s k 0) (get_or s l 0) (r.modules k (omega arith)) (r.modules l i) (runs_earlier s r k l h i);
      })

  runs_only : (s : List ℕ) → RunsAlong m before s → s ≡ ordered_by m before
  runs_only s r =
      same_lists s (ordered_by m before) (r.long ∙ sym ordered_runs.long)
      (λ k d h.
      let i : k < m = omega (arith, r.long) in
      get_or_default s k d 0 h
      ∙ count_once (get_or s k 0) (get_or (ordered_by m before) k 0) (r.modules k i) (entry_below k i)
      (runs_count s r k i ∙ sym (entry_count k i))
      ∙ get_or_default (ordered_by m before) k 0 d (omega (arith, ordered_runs.long)))

  ordered_placed :
      (i : ℕ) → i < m → (count_before m before i < m) × (get_or (ordered_by m before) (count_before m before i) 0 ≡ i)
  ordered_placed i h =
      let place = count_before m before i in
      let low = count_below_lem i h in
      (low, count_once (get_or (ordered_by m before) place 0) i (entry_below place low) h (entry_count place low))

pub ordered_by_count : CountingOrders
ordered_by_count m before o =
    record {
      runs = ordered_runs m before o;
      earlier = runs_earlier m before o (ordered_by m before) (ordered_runs m before o);
      placed = ordered_placed m before o;
      only = runs_only m before o;
    }
