-- What a sequence pair means is feasible, and its codes are told by the places that it keeps.
use Rattle.std.specs.Prelude.{◌≡◌, ℕ, ◌<◌, ◌≤◌, Bool, cond, ◌&&◌, List, length, take, Some, None, nat_lt, slice_index, refl}
use Rattle.std.proofs.Common.{arith, sym, subst, ◌∙◌, inl, inr}
use Rattle.std.proofs.lemmas.List.{length-take-le, get_or-take}
use Rattle.std.proofs.lemmas.Bool.{cases_lt, lt-ltb, le-ltb}
use Rattle.plans.proofs.PairLaw.{pair_law}
use Rattle.plans.proofs.TableLists.{table_within}
use Rattle.plans.specs.PairLaw.{Pair}
use Rattle.plans.specs.Tables.{Feasible, table_in, module_at}
use Rattle.sequence_pairs.specs.Keeping.{AtPlaces}
use Rattle.sequence_pairs.specs.Kept.{kept_names, kept_place}
use Rattle.sequence_pairs.specs.Meaning.{meant}
use Rattle.sequence_pairs.specs.declared.pair.SequencePair.{SequencePair}

-- the code by the kept places
abbrev pub code_by_places : ℕ → List ℕ → List ℕ → ℕ → ℕ → ℕ
code_by_places m first second i j =
    cond (nat_lt i m && nat_lt j m)
    (cond (nat_lt (slice_index first i) (slice_index first j)) (cond (nat_lt (slice_index second i) (slice_index second j)) 1 2) 0)
    0

module _ (x : SequencePair) where
  abbrev m : ℕ
  m = x.packing.count

  room : m ≤ length x.packing.modules
  room = let few = x.packing.few in omega (arith, x.packing.room)

  other_room : m ≤ length x.other.modules
  other_room = let few = x.packing.few in omega (arith, x.other.room)

  paired : AtPlaces m x.other.modules x.other.places
  paired = subst (λ n. AtPlaces n x.other.modules x.other.places) x.same x.other.kept

  pub kept_pair : Pair m (take m x.other.modules) (take m x.packing.modules)
  kept_pair =
      record {
        few = x.packing.few;
        first = kept_names m x.other.modules x.other.places other_room paired;
        second = kept_names m x.packing.modules x.packing.places room x.packing.kept;
      }

  pub meant_size : (meant x).size ≡ m
  meant_size = length-take-le m x.packing.modules room

  pub meant_feasible : Feasible (meant x)
  meant_feasible = pair_law.feasible m (take m x.other.modules) (take m x.packing.modules) kept_pair

  inside_told :
      (i j : ℕ) → i < m → j < m → table_in (meant x) i j ≡ code_by_places m x.packing.places x.other.places i j
  inside_told i j h k =
      let p = kept_place m x.packing.modules x.packing.places room x.packing.kept in
      let q = kept_place m x.other.modules x.other.places other_room paired in
      pair_law.codes m (take m x.other.modules) (take m x.packing.modules) kept_pair i j h k
      ∙ rw (p i h, p j k, q i h, q j k, lt-ltb i m h, lt-ltb j m k) refl

  outside_told : (i j : ℕ) → ((i < m) × (j < m) → ⊥) → table_in (meant x) i j ≡ 0
  outside_told i j out =
      elim (cases_lt 0 (table_in (meant x) i j)) [
        | inl more ↦
            let w = table_within (meant x).size (meant x).codes i j more in
            absurd (out (omega (arith, w.0, meant_size), omega (arith, w.1, meant_size)))
        | inr less ↦ omega arith
      ]

  pub told : (i j : ℕ) → table_in (meant x) i j ≡ code_by_places m x.packing.places x.other.places i j
  told i j =
      elim (cases_lt i m) [
        | inl h ↦
            elim (cases_lt j m) [
              | inl k ↦ inside_told i j h k
              | inr k ↦ outside_told i j (λ w. omega (arith, w.1)) ∙ rw (le-ltb j m k, lt-ltb i m h) refl
            ]
        | inr h ↦ outside_told i j (λ w. omega (arith, w.0)) ∙ rw (le-ltb i m h) refl
      ]

  -- the code of two modules, from what comparing their places gives
  pub told_by :
      (i j : ℕ) → i < m → j < m → (first second : Bool)
      → first ≡ nat_lt (slice_index x.packing.places i) (slice_index x.packing.places j)
      → second ≡ nat_lt (slice_index x.other.places i) (slice_index x.other.places j)
      → cond first (cond second 1 2) 0 ≡ table_in (meant x) i j
  told_by i j h k first second e f = rw (e, f) (sym (told i j ∙ rw (lt-ltb i m h, lt-ltb j m k) refl))

  -- the module at a place is the one that is kept there
  pub module_told : (k : ℕ) → cond (nat_lt k m) (Some (slice_index x.packing.modules k)) None ≡ module_at (meant x) k
  module_told k =
      elim (cases_lt k m) [
        | inl h ↦ sym (rw (meant_size, lt-ltb k m h, get_or-take m x.packing.modules k 0 h) refl)
        | inr h ↦ sym (rw (meant_size, le-ltb k m h) refl)
      ]
