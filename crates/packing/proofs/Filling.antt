-- Filling the result list along the sequence: one module more, and all.
use Rattle.std.proofs.Common.{◌≡◌, ℕ, ◌+◌, ◌<◌, Bool, true, false, not, ◌&&◌, ◌||◌, List, length, set, sym, refl, ap, ◌∙◌, inl, inr, add-one, arith}
use Rattle.std.proofs.lemmas.List.{get_or-set_same, get_or-set_other, length-set, same_lists}
use Rattle.std.proofs.lemmas.Bool.{cases_eq, cases_lt, or_left, or_right, or_from}
use Rattle.plans.proofs.PackingAnswers.{list_shows}
use Rattle.plans.proofs.Searches.{some_tells, some_from, none_from}
use Rattle.plans.specs.Axes.{pushed}
use Rattle.plans.specs.Kinds.{Kind, Lawful}
use Rattle.plans.specs.Packing.{Task, Pins, axis_of, packed_module, packed_list}
use Rattle.plans.specs.PackingCalls.{no_place}
use Rattle.plans.specs.Search.{some_below}
use Rattle.plans.specs.declared.measures.Placed.{Placed}
use Rattle.packing.proofs.OneModule.{module_places}
use Rattle.packing.specs.Steps.{ReadyToPack, Reached, at_place, pushed_at}

-- none of the numbers up to one more passes, by whether none before it does and whether it does
pub none_more :
    (n : ℕ) (p : ℕ → Bool) (sofar one : Bool) → sofar ≡ not (some_below n p) → one ≡ not (p n)
    → (sofar && one) ≡ not (some_below (n + 1) p)
none_more n p sofar one before here = rw (add-one n, before, here) (neither (some_below n p) (p n))
  where
    neither : (b c : Bool) → (not b && not c) ≡ not (c || b)
    neither true true = refl
    neither true false = refl
    neither false true = refl
    neither false false = refl

-- some number below m passes either test where some passes one or the other
some_either : (m : ℕ) (p q : ℕ → Bool) → some_below m (λ i. p i || q i) ≡ (some_below m p || some_below m q)
some_either m p q =
    elim (some_tells m p) [
      | inl r ↦
          some_from m (λ i. p i || q i) r.1.0 r.1.1 (or_left (p r.1.0) (q r.1.0) r.1.2)
          ∙ sym (or_left (some_below m p) (some_below m q) r.0)
      | inr r ↦
          elim (some_tells m q) [
            | inl s ↦
                some_from m (λ i. p i || q i) s.1.0 s.1.1 (or_right (p s.1.0) (q s.1.0) s.1.2)
                ∙ sym (or_right (some_below m p) (some_below m q) s.0)
            | inr s ↦
                none_from m (λ i. p i || q i) (λ k h. or_from (p k) (q k) (r.1 k h) (s.1 k h))
                ∙ sym (or_from (some_below m p) (some_below m q) r.0 s.0)
          ]
    ]

-- along a list that names each number below m, the same tests are made
some_along :
    (m : ℕ) (p : ℕ → Bool) (at : ℕ → ℕ) → ((k : ℕ) → k < m → at k < m)
    → ((i : ℕ) → i < m → (k : ℕ) × (k < m) × (at k ≡ i)) → some_below m (λ k. p (at k)) ≡ some_below m p
some_along m p at below named =
    elim (some_tells m p) [
      | inl r ↦
          let k = named r.1.0 r.1.1 in
          some_from m (λ l. p (at l)) k.0 k.1 (ap p k.2 ∙ r.1.2) ∙ sym r.0
      | inr r ↦ none_from m (λ l. p (at l)) (λ k h. r.1 (at k) (below k h)) ∙ sym r.0
    ]

module _ {L : Type 0} (K : Kind L) (t : Task L) (pins : Pins L) (n : ℕ) (ready : ReadyToPack K t pins n) where
  -- the record of the next module is written
  pub reached_more :
      (k : ℕ) (before after : List (Placed L)) → k < t.plan.size → length before ≡ n → Reached K t pins k before after
      → Reached K t pins (k + 1) before (set after (at_place t.plan k) (packed_module K t pins (at_place t.plan k)))
  reached_more k before after h long reached =
      let fits = ready.packable.feasible.fits in
      let i = at_place t.plan k in
      let new = packed_module K t pins i in
      let room : i < length after = omega (arith, reached.long, ready.room, fits.modules k h) in
      record {
        filled = λ l d b.
            elim (cases_eq l k) [
              | inl same ↦ rw same (get_or-set_same after i new d room)
              | inr other ↦
                  let less : l < k = omega (arith, other) in
                  get_or-set_other after i (at_place t.plan l) new d
                  (λ e. other (fits.once l k (omega arith) h e)) ∙ reached.filled l d less
            ];
        others = λ j d away.
            get_or-set_other after i j new d (λ e. away k (omega arith) (sym e))
            ∙ reached.others j d (λ l b. away l (omega arith));
        long = length-set after i new ∙ reached.long;
      }

  -- all are
  pub reached_all :
      (law : Lawful K) (k : ℕ) (before after : List (Placed L)) → k ≡ t.plan.size → length before ≡ n
      → Reached K t pins k before after → after ≡ packed_list K t pins before
  reached_all law k before after e long reached =
      let shows = list_shows K t pins before (omega (arith, ready.room)) in
      same_lists after (packed_list K t pins before) (reached.long ∙ sym shows.long)
      (λ i d h.
      elim (cases_lt i t.plan.size) [
        | inl b ↦
            let l = module_places K law t pins n ready i b in
            rw l.2 at (reached.filled l.0 d (omega (arith, l.1))) ∙ sym (shows.records i d b)
        | inr b ↦
            reached.others i d
            (λ l less same.
            let inside = ready.packable.feasible.fits.modules l (omega arith) in
            omega (arith, inside, same))
            ∙ sym (shows.others i d b)
      ])

  -- no module is pushed past its pin along the sequence exactly where there is a place
  pub pushed_along :
      (law : Lawful K) → some_below t.plan.size (λ k. pushed_at K t pins (at_place t.plan k)) ≡ no_place K t pins
  pushed_along law =
      some_along t.plan.size (pushed_at K t pins) (at_place t.plan) ready.packable.feasible.fits.modules
      (module_places K law t pins n ready)
      ∙ some_either t.plan.size (pushed K (axis_of K t pins 1)) (pushed K (axis_of K t pins 2))
