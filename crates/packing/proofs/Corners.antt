-- Free corners: one module more, and where they are those of the packing.
use Rattle.std.proofs.Common.{◌≡◌, ℕ, suc, ◌+◌, ◌<◌, Bool, cond, eqb, List, [], ◌∷◌, ◌++◌, length, get_or, take, sym, refl, ap, ◌∙◌, arith}
use Rattle.std.proofs.lemmas.List.{take_more, get_or_read}
use Rattle.plans.specs.Kinds.{Kind}
use Rattle.plans.specs.LaterOfTwo.{latest_onto}
use Rattle.plans.specs.Packing.{at_origin}
use Rattle.plans.specs.Tables.{Floorplan, table_in}
use Rattle.plans.specs.declared.measures.Placed.{Placed}
use Rattle.packing.specs.Corners.{next_after}
use Rattle.packing.specs.declared.pin.Corner.{Corner}
use Rattle.packing.specs.Steps.{corner_past, free_corner, at_place}

module _ {L : Type 0} (K : Kind L) (chosen : ℕ → Bool) where
  -- one entry more at the end
  onto_push :
      (f : ℕ → L) (sofar : L) (js : List ℕ) (j : ℕ)
      → latest_onto K chosen f sofar (js ++ (j ∷ []))
      ≡ cond (chosen j) (K.later (latest_onto K chosen f sofar js) (f j)) (latest_onto K chosen f sofar js)
  onto_push f sofar [] j = refl
  onto_push f sofar (x ∷ js) j = onto_push f (cond (chosen x) (K.later sofar (f x)) sofar) js j

  -- the same lengths at the entries have the same latest
  pub onto_same :
      (f h : ℕ → L) (sofar : L) (js : List ℕ) → ((k : ℕ) → k < length js → f (get_or js k 0) ≡ h (get_or js k 0))
      → latest_onto K chosen f sofar js ≡ latest_onto K chosen h sofar js
  onto_same f h sofar [] same = refl
  onto_same f h sofar (j ∷ js) same =
      let here = same 0 (omega arith) in
      ap (λ v. latest_onto K chosen f (cond (chosen j) (K.later sofar v) sofar) js) here
      ∙ onto_same f h (cond (chosen j) (K.later sofar (h j)) sofar) js (λ k l. same (suc k) (omega arith))

-- along the places before k and one more
module _ {L : Type 0} (K : Kind L) (p : Floorplan) (i g : ℕ) (f : ℕ → L) where
  along_more :
      (k : ℕ) → k < length p.sequence
      → latest_onto K (λ j. eqb (table_in p j i) g) f K.origin (take (k + 1) p.sequence)
      ≡ cond (eqb (table_in p (at_place p k) i) g)
      (K.later (latest_onto K (λ j. eqb (table_in p j i) g) f K.origin (take k p.sequence)) (f (at_place p k)))
      (latest_onto K (λ j. eqb (table_in p j i) g) f K.origin (take k p.sequence))
  along_more k h =
      ap (λ js. latest_onto K (λ j. eqb (table_in p j i) g) f K.origin js) (take_more p.sequence k 0 h)
      ∙ onto_push K (λ j. eqb (table_in p j i) g) f K.origin (take k p.sequence) (at_place p k)

-- the free corner after one place more
free_more :
    {L : Type 0} (K : Kind L) (p : Floorplan) (results : List (Placed L)) (k i : ℕ) → k < length p.sequence
    → free_corner K p results (k + 1) i
    ≡ corner_past K (free_corner K p results k i) (table_in p (at_place p k) i) (get_or results (at_place p k) (at_origin K))
free_more K p results k i h x =
    record {
      across = along_more K p i 1 (λ j. (next_after (get_or results j (at_origin K))).across) k h x;
      up = along_more K p i 2 (λ j. (next_after (get_or results j (at_origin K))).up) k h x;
    }

-- the corner moved past the module that was read there
pub free_moved :
    {L : Type 0} (K : Kind L) (p : Floorplan) (results : List (Placed L)) (k i j code : ℕ) (placed : Placed L)
    (sofar next : Corner L)
    → k < length p.sequence → j < length results → at_place p k ≡ j → code ≡ table_in p j i
    → placed ≡ get_or results j placed → sofar ≡ free_corner K p results k i → next ≡ corner_past K sofar code placed
    → next ≡ free_corner K p results (k + 1) i
free_moved K p results k i j code placed sofar next h below stands told is before moved =
    let back = sym stands in
    let read =
    get_or_read results j placed below is (at_origin K) ∙ ap (λ l. get_or results l (at_origin K)) back in
    let by = told ∙ ap (λ l. table_in p l i) back in
    moved ∙ (λ x. corner_past K (before x) (by x) (read x)) ∙ sym (free_more K p results k i h)
