-- A sequence in which each module stands at the place that counts those before it.
use Rattle.std.proofs.Common.{◌≡◌, ℕ, ◌<◌, ◌≤◌, Bool, List, length, get_or, take, sym, ap, ◌∙◌}
use Rattle.closure_graphs.proofs.Fronts.{begins_whole}
use Rattle.plans.proofs.Orders.{ordered_by_count}
use Rattle.plans.specs.Orders.{TotalOrder}
use Rattle.plans.specs.Sequences.{count_before, ordered_by}
use Rattle.sequence_pairs.specs.Keeping.{AtPlaces, Distinct}

module _ (m : ℕ) (before : ℕ → ℕ → Bool) (o : TotalOrder m before) (places : List ℕ)
    (counted : (j : ℕ) → j < m → get_or places j 0 ≡ count_before m before j) where
  -- counted places differ
  pub counted_distinct : Distinct m places
  counted_distinct =
      let by = ordered_by_count m before o in (
        λ i h. rw (counted i h) (by.placed i h).0,
        λ i j h k e.
            sym (by.placed i h).1
            ∙ ap (λ p. get_or (ordered_by m before) p 0) (sym (counted i h) ∙ e ∙ counted j k)
            ∙ (by.placed j k).1,
      )

  -- and modules at their counted places stand in order
  pub counted_ordered : (modules : List ℕ) → m ≤ length modules → AtPlaces m modules places → take m modules ≡ ordered_by m before
  counted_ordered modules room at =
      let by = ordered_by_count m before o in
      begins_whole (ordered_by m before) modules m by.runs.long room
      (λ k i.
      let x = get_or (ordered_by m before) k 0 in
      let low = by.runs.modules k i in
      let same : count_before m before x ≡ k =
      by.runs.once (count_before m before x) k (by.placed x low).0 i (by.placed x low).1 in
      ap (λ p. get_or modules p 0) (sym (counted x low ∙ same)) ∙ (at x low).1)
