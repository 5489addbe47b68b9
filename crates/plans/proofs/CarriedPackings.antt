-- A map of lengths that keeps zero, sums and the later of two carries packings along.
use Rattle.std.proofs.Common.{◌≡◌, ℕ, zero, suc, ◌*◌, Bool, true, false, cond, not, ◌&&◌, eqb, ltb, leb, List, [], ◌∷◌, ◌++◌, map, length, get_or, drop, Some, None, Ok, Option, unwrap_or, sym, refl, ap, ◌∙◌, ap₂, arith}
use mathlib.Core.Path.{fun_ext}
use mathlib.Core.List.{map-map}
use Rattle.std.specs.List.{range_with_len}
use Rattle.std.specs.Option.{option_map}
use Rattle.std.proofs.lemmas.List.{map-append, length-map, drop-map}
use Rattle.std.proofs.lemmas.Bool.Decides.{nat_tests}
use Rattle.plans.specs.Axes.{Axis, latest, free_edge, near_within, near_edge}
use Rattle.plans.specs.CarriedPackings.{Carries, PacksCarried, carry_sides, carry_task, carry_pins, carry_placed, carry_chip, carry_outcome}
use Rattle.plans.specs.Kinds.{Kind, Count, count_at_most, plain_kind, counted_kind, possible_side}
use Rattle.plans.specs.Packing.{Task, Pins, no_sides, no_pins, side_along, side_of, next_of, axis_of, far_of, span_of, packed_edge, packed_module, packed_chip, packed_list, rotated_task}
use Rattle.plans.specs.PackingCalls.{wrong_side, pack_refusal, refused_or, packed_outcome, rotation_refusal}
use Rattle.plans.specs.Search.{first_below, or_else, refusing}
use Rattle.plans.specs.declared.measures.Sides.{Sides}
use Rattle.plans.specs.declared.measures.Placed.{Placed}
use Rattle.plans.specs.declared.pack_refusals.PackRefusal.TheVariants.{WrongSides, ShortResults, WrongSide}
use Rattle.plans.specs.declared.pack_refusals.RotationRefusal.TheVariants as rotation

-- an element of a mapped list, also beyond its end
carried_at : {X Y : Type 0} (f : X → Y) (xs : List X) (i : ℕ) (d : X) → get_or (map f xs) i (f d) ≡ f (get_or xs i d)
carried_at f [] i d = refl
carried_at f (x ∷ xs) zero d = refl
carried_at f (x ∷ xs) (suc i) d = carried_at f xs i d

-- the side along an axis, carried
carried_side :
    {L M : Type 0} (h : L → M) (g : ℕ) (rotated : Bool) (s : Sides L)
    → side_along g rotated (carry_sides h s) ≡ h (side_along g rotated s)
carried_side h g rotated s = grind (arith, nat_tests)

carried_value : {L M : Type 0} (h : L → M) (o : Option L) (v : L) → unwrap_or (option_map h o) (h v) ≡ h (unwrap_or o v)
carried_value h (Some x) v = refl
carried_value h None v = refl

module _ {L M : Type 0} (K : Kind L) (N : Kind M) (h : L → M) (law : Carries K N h) where
  -- the latest of carried lengths
  carried_latest :
      (chosen : ℕ → Bool) (f : ℕ → L) (f' : ℕ → M) → ((j : ℕ) → f' j ≡ h (f j)) → (n : ℕ)
      → latest N chosen f' n ≡ h (latest K chosen f n)
  carried_latest chosen f f' e zero = sym law.zero
  carried_latest chosen f f' e (suc n) =
      let ih = carried_latest chosen f f' e n in
      rw (ih, e n, ← law.joins (latest K chosen f n) (f n)) (carried_choice (chosen n))
    where
      carried_choice :
          (b : Bool)
          → cond b (h (K.later (latest K chosen f n) (f n))) (h (latest K chosen f n))
          ≡ h (cond b (K.later (latest K chosen f n) (f n)) (latest K chosen f n))
      carried_choice true = refl
      carried_choice false = refl

  -- an entry of carried sides, zero beyond the end
  carried_entry :
      (sides : List (Sides L)) (i : ℕ)
      → get_or (map (carry_sides h) sides) i (no_sides N)
      ≡ carry_sides h (get_or sides i (no_sides K))
  carried_entry sides i =
      rw (← law.zero) (carried_at (carry_sides h) sides i (no_sides K))

  module _ (t : Task L) where
    -- the sides of a carried task
    carried_sides : (g i : ℕ) → side_of N (carry_task h t) g i ≡ h (side_of K t g i)
    carried_sides g i =
        rw (carried_entry t.sides i)
        (carried_side h g (t.rotated i) (get_or t.sides i (no_sides K)))

    carried_far : (g : ℕ) (e : ℕ → L) (e' : ℕ → M) (i : ℕ) → e' i ≡ h (e i) → far_of N (carry_task h t) g e' i ≡ h (far_of K t g e i)
    carried_far g e e' i same =
        ap₂ (λ a b. N.plus a b) same (carried_sides g i) ∙ sym (law.sums (e i) (side_of K t g i))

    carried_next : (g i : ℕ) (e : L) (e' : M) → e' ≡ h e → next_of N (carry_task h t) g i e' ≡ h (next_of K t g i e)
    carried_next g i e e' same = carried_far g (λ j. e) (λ j. e') i same

    carried_span :
        (g : ℕ) (e : ℕ → L) (e' : ℕ → M) → ((i : ℕ) → e' i ≡ h (e i)) → span_of N (carry_task h t) g e' ≡ h (span_of K t g e)
    carried_span g e e' same =
        carried_latest (λ i. true) (far_of K t g e) (far_of N (carry_task h t) g e') (λ i. carried_far g e e' i (same i)) t.plan.size

    module _ (pins : Pins L) where
      -- the axis of a graph in both kinds
      abbrev here : ℕ → Axis L
      here g = axis_of K t pins g

      abbrev there : ℕ → Axis M
      there g = axis_of N (carry_task h t) (carry_pins h pins) g

      -- near edges are carried, round by round
      carried_rounds : (g n i : ℕ) → near_within N (there g) n i ≡ h (near_within K (here g) n i)
      carried_rounds g zero i = sym law.zero
      carried_rounds g (suc n) i =
          let near = near_within K (here g) n in
          let carried = near_within N (there g) n in
          let free : free_edge N (there g) carried i ≡ h (free_edge K (here g) near i) =
          carried_latest (λ j. (here g).before j i) (λ j. next_of K t g j (near j)) (λ j. next_of N (carry_task h t) g j (carried j))
          (λ j. carried_next g j (near j) (carried j) (carried_rounds g n j)) t.plan.size in
          rw free (carried_value h (pins g i) (free_edge K (here g) near i))

      carried_near : (g i : ℕ) → packed_edge N (carry_task h t) (carry_pins h pins) g i ≡ h (packed_edge K t pins g i)
      carried_near g i = carried_rounds g t.plan.size i

      -- and with them far edges, and the chip
      carried_module :
          (i : ℕ) → packed_module N (carry_task h t) (carry_pins h pins) i ≡ carry_placed h (packed_module K t pins i)
      carried_module i =
          let left = carried_near 1 i in
          let bottom = carried_near 2 i in
          let right = carried_far 1 (near_edge K (here 1)) (near_edge N (there 1)) i left in
          let top = carried_far 2 (near_edge K (here 2)) (near_edge N (there 2)) i bottom in
          λ k. record { left = left k; bottom = bottom k; right = right k; top = top k }

      carried_chip : packed_chip N (carry_task h t) (carry_pins h pins) ≡ carry_chip h (packed_chip K t pins)
      carried_chip =
          let width = carried_span 1 (near_edge K (here 1)) (near_edge N (there 1)) (carried_near 1) in
          let height = carried_span 2 (near_edge K (here 2)) (near_edge N (there 2)) (carried_near 2) in
          let across = ap (λ v. N.reach v) width ∙ law.extents (span_of K t 1 (near_edge K (here 1))) in
          let up = ap (λ v. N.reach v) height ∙ law.extents (span_of K t 2 (near_edge K (here 2))) in
          λ k. record { width = width k; height = height k; area = across k * up k }

      carried_list :
          (results : List (Placed L))
          → packed_list N (carry_task h t) (carry_pins h pins) (map (carry_placed h) results)
          ≡ map (carry_placed h) (packed_list K t pins results)
      carried_list results =
          let all = range_with_len 0 t.plan.size in
          let modules = packed_module K t pins in
          let same : map (packed_module N (carry_task h t) (carry_pins h pins)) all ≡ map (λ i. carry_placed h (modules i)) all =
          ap (λ f. map f all) (fun_ext carried_module) in
          ap₂ (λ xs ys. xs ++ ys) (same ∙ sym (map-map (carry_placed h) modules all)) (drop-map (carry_placed h) t.plan.size results)
          ∙ sym (map-append (carry_placed h) (map modules all) (drop t.plan.size results))

    -- carried sides are possible where the sides are, so the refusals are the same
    carried_possible : (a : L) → possible_side N (h a) ≡ possible_side K a
    carried_possible a = rw (law.extents a) refl

    carried_wrong : (i : ℕ) → wrong_side N (map (carry_sides h) t.sides) i ≡ wrong_side K t.sides i
    carried_wrong i =
        let s = get_or t.sides i (no_sides K) in
        ap (λ q. not (possible_side N q.width && possible_side N q.height))
        (carried_entry t.sides i)
        ∙ ap₂ (λ a b. not (a && b)) (carried_possible s.width) (carried_possible s.height)

    carried_refusal :
        (results : List (Placed L)) → pack_refusal N (carry_task h t) (map (carry_placed h) results) ≡ pack_refusal K t results
    carried_refusal results =
        ap₂
        (λ sides wrong.
        or_else (refusing (not (eqb sides t.plan.size)) WrongSides)
        (or_else (refusing (ltb (length (map (carry_placed h) results)) t.plan.size) ShortResults)
        (option_map WrongSide (first_below t.plan.size wrong))))
        (length-map t.sides (carry_sides h)) (fun_ext carried_wrong)
        ∙ ap
        (λ room.
        or_else (refusing (not (eqb (length t.sides) t.plan.size)) WrongSides)
        (or_else (refusing (ltb room t.plan.size) ShortResults)
        (option_map WrongSide (first_below t.plan.size (wrong_side K t.sides)))))
        (length-map results (carry_placed h))

    -- so the whole outcome of a packing is carried
    carried_outcome :
        {E : Type 0} (pins : Pins L) (results : List (Placed L)) (r : Option E)
        → refused_or N r (map (carry_placed h) results) (packed_outcome N (carry_task h t) (carry_pins h pins) (map (carry_placed h) results))
        ≡ carry_outcome h (refused_or K r results (packed_outcome K t pins results))
    carried_outcome pins results (Some e) = refl
    carried_outcome pins results None =
        λ k. record { answer = Ok (carried_chip pins k); results = carried_list pins results k }

  -- packing carried lengths gives the carried packing
  pub packs_carried : PacksCarried K N h
  packs_carried =
      record {
        near = carried_near;
        modules = carried_module;
        chip = carried_chip;
        list = carried_list;
        pack = λ t results.
            ap (λ r. refused_or N r (map (carry_placed h) results) (packed_outcome N (carry_task h t) no_pins (map (carry_placed h) results)))
            (carried_refusal t results)
            ∙ carried_outcome t no_pins results (pack_refusal K t results);
        rotated = λ t results a.
            ap
            (λ r.
            refused_or N (or_else (option_map rotation.Packing r) (refusing (leb t.plan.size a) rotation.NoModule)) (map (carry_placed h) results)
            (packed_outcome N (carry_task h (rotated_task t a)) no_pins (map (carry_placed h) results)))
            (carried_refusal t results)
            ∙ carried_outcome (rotated_task t a) no_pins results (rotation_refusal K t results a);
      }

-- a counted length's length: the later of two is that of the lengths
counted_later :
    (a b : Count) (r : Bool) → count_at_most a b ≡ r → (counted_kind.later a b).long ≡ plain_kind.later a.long b.long
counted_later a b true e = rw e (grind (arith, nat_tests))
counted_later a b false e = rw e (grind (arith, nat_tests))

-- the length of a counted length carries packings
pub long_carries : Carries counted_kind plain_kind (λ a. a.long)
long_carries =
    record {
      zero = refl;
      sums = λ a b. refl;
      joins = λ a b. counted_later a b (count_at_most a b) refl;
      extents = λ a. refl;
    }
