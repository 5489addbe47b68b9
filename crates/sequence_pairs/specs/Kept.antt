-- A sequence that is kept with the places of its modules names each module once, and tells their places.
use Rattle.std.specs.Prelude.{◌≡◌, ℕ, ◌<◌, ◌≤◌, List, length, take, slice_index, slice_index_or}
use Rattle.std.proofs.Common.{arith, sym, ◌∙◌, ap}
use Rattle.std.proofs.lemmas.List.{length-take-le, get_or-take}
use Rattle.plans.proofs.NamedOnce.{place_at}
use Rattle.plans.proofs.Pigeonhole.{all_found}
use Rattle.plans.specs.PairLaw.{NamesEach}
use Rattle.plans.specs.Search.{place_of}
use Rattle.sequence_pairs.specs.Keeping.{AtPlaces}

module _ (m : ℕ) (modules places : List ℕ) (room : m ≤ length modules) (at : AtPlaces m modules places) where
  -- no two modules have one place
  places_once : (i j : ℕ) → i < m → j < m → slice_index places i ≡ slice_index places j → i ≡ j
  places_once i j h k e = sym (at i h).1 ∙ ap (λ p. slice_index modules p) e ∙ (at j k).1

  -- at each place stands a module that has the place
  pub module_at_lem : (k : ℕ) → k < m → (slice_index modules k < m) × (slice_index places (slice_index modules k) ≡ k)
  module_at_lem k h =
      let (i, l, e) = all_found m (λ i. slice_index places i) (record { below = λ i l. (at i l).0; once = places_once }) k h in
      let same : slice_index_or modules k 0 ≡ i = ap (λ p. slice_index modules p) (sym e) ∙ (at i l).1 in
      (omega arith, ap (λ p. slice_index places p) same ∙ e)

  front : (k : ℕ) → k < m → slice_index (take m modules) k ≡ slice_index modules k
  front k h = get_or-take m modules k 0 h

  pub kept_names : NamesEach m (take m modules)
  kept_names =
      record {
        long = length-take-le m modules room;
        modules = λ k h. rw (front k h) (module_at_lem k h).0;
        once = λ k l h i e.
            let same : slice_index_or modules k 0 ≡ slice_index_or modules l 0 = sym (front k h) ∙ e ∙ front l i in
            sym (module_at_lem k h).1 ∙ ap (λ p. slice_index places p) same ∙ (module_at_lem l i).1;
      }

  -- a module's place is the one that is kept
  pub kept_place : (i : ℕ) → i < m → place_of (take m modules) i ≡ slice_index places i
  kept_place i h =
      let p = slice_index_or places i 0 in
      let same : slice_index_or (take m modules) p 0 ≡ i = front p (at i h).0 ∙ (at i h).1 in
      ap (place_of (take m modules)) (sym same) ∙ place_at m (take m modules) kept_names p (at i h).0
