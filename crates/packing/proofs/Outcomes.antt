-- What the calls answer and leave, from what their parts do.
use Rattle.std.proofs.Common.{◌≡◌, ℕ, ◌<◌, ◌≤◌, Bool, true, false, cond, not, ◌&&◌, ◌==◌, nat_lt, if◌then◌else◌, List, ◌++◌, map, length, take, drop, None, Ok, Err, Option, Result, sym, refl, ap, ◌∙◌, subst, lt-ltb}
use Rattle.std.specs.List.{range_with_len}
use Rattle.std.proofs.lemmas.List.FromFn.{length-map-range_with_len}
use Rattle.std.proofs.lemmas.List.{drop_at}
use Rattle.std.proofs.lemmas.Bool.{cond-true, cond-false, not-true, not-false}
use Rattle.plans.proofs.KindLaws.{lawful_later, join_laws}
use Rattle.plans.proofs.LeastPlacements.{no_pins_near}
use Rattle.plans.proofs.PackRefusals.{not_refused_packable, not_refused_pinned, not_refused_rotated}
use Rattle.plans.proofs.PackingAnswers.{pack_answers, pinned_answers, rotated_answers, pack_paths, rotated_paths}
use Rattle.plans.specs.Kinds.{Kind, Lawful}
use Rattle.plans.specs.Packing.{Task, Pins, no_pins, packed_module, packed_chip, packed_list, rotated_task}
use Rattle.plans.specs.PackingAnswers.{ShowsChip, ShowsPaths, TellsPinned}
use Rattle.plans.specs.PackingCalls.{Outcome, pack_refusal, pin_refusal, rotation_refusal, no_place, refused_or, packed_outcome, after_pack, after_pack_pinned, after_pack_rotated}
use Rattle.plans.specs.PackingTheorems.{NearPins}
use Rattle.plans.specs.Tables.{Floorplan, Feasible}
use Rattle.plans.specs.declared.measures.Chip.{Chip}
use Rattle.plans.specs.declared.measures.Placed.{Placed}
use Rattle.plans.specs.declared.measures.Sides.{Sides}
use Rattle.plans.specs.declared.pack_refusals.PackRefusal.{PackRefusal}
use Rattle.plans.specs.declared.pack_refusals.PinnedRefusal.{PinnedRefusal}
use Rattle.plans.specs.declared.pack_refusals.PinnedRefusal.TheVariants as pinned
use Rattle.packing.proofs.Chips.{chip_packed}
use Rattle.packing.specs.Calls.{Gives, Packs, PacksPinned, PacksRotated, PacksFreely, PacksOnceMore, ShowsPacking, ShowsLongest, ShowsPinned}
use Rattle.packing.specs.Corners.{chip_around}
use Rattle.packing.specs.Steps.{ReadyToPack}
use Rattle.packing.specs.Tasks.{pin_of}
use Rattle.packing.specs.declared.pin.Pin.{Pin}

-- whether there is a place, by whether all modules fit
pub some_place : (fits none : Bool) → fits ≡ not none → fits ≡ true → none ≡ false
some_place fits none e f = not-true none (sym e ∙ f)

pub not_placed : (fits none : Bool) → fits ≡ not none → fits ≡ false → none ≡ true
not_placed fits none e f = not-false none (sym e ∙ f)

-- an answer and a list that are those of an outcome tell what it tells
carried_over :
    {L E : Type 0} (P : Outcome L E → Type 0) (answer : Result (Chip L) E) (after : List (Placed L)) (o : Outcome L E)
    → Gives o answer after → P o → P (record { answer = answer; results = after })
carried_over P answer after o gives =
    subst P (λ x. record { answer = sym gives.0 x; results = sym gives.1 x })

module _ {L : Type 0} (K : Kind L) where
  -- an outcome that no refusal stands before
  outcome_allowed :
      {E : Type 0} (r : Option E) (results : List (Placed L)) (o : Outcome L E) → r ≡ None → refused_or K r results o ≡ o
  outcome_allowed r results o e = rw e refl

  module _ (t : Task L) (before : List (Placed L)) where
    module _ (feasible : Feasible t.plan) (none : pack_refusal K t before ≡ None) where
      -- a packing that is not refused can be made
      pub ready : (pins : Pins L) → NearPins K pins → ReadyToPack K t pins (length before)
      ready pins close =
          let q = not_refused_packable K t before feasible none in
          record { packable = q.0; close = close; room = q.1 }

      pub ready_free : ReadyToPack K t no_pins (length before)
      ready_free = ready no_pins (no_pins_near K)

    -- the chip around a filled list
    chip_made :
        (pins : Pins L) → t.plan.size ≤ length before → (m : ℕ) (chip : Chip L) (after : List (Placed L))
        → m ≡ t.plan.size → after ≡ packed_list K t pins before → chip ≡ chip_around K (take m after) → chip ≡ packed_chip K t pins
    chip_made pins room m chip after size list around =
        around ∙ (λ x. chip_around K (take (size x) (list x))) ∙ chip_packed K t pins before room

    -- a chip with its list is the outcome of a packing
    made_outcome :
        {E : Type 0} (pins : Pins L) (o : Outcome L E) → t.plan.size ≤ length before
        → (m : ℕ) (chip : Chip L) (after : List (Placed L)) → o ≡ packed_outcome K t pins before → m ≡ t.plan.size
        → after ≡ packed_list K t pins before → chip ≡ chip_around K (take m after) → Gives o (Ok chip) after
    made_outcome pins o room m chip after allowed size list around =
        let made = chip_made pins room m chip after size list around in
        subst (λ p. Gives p (Ok chip) after) (sym allowed) ((λ x. Ok (made x)), list)

-- pack
module _ {L : Type 0} (K : Kind L) (t : Task L) (before : List (Placed L)) (feasible : Feasible t.plan) where
  room : pack_refusal K t before ≡ None → t.plan.size ≤ length before
  room none = (not_refused_packable K t before feasible none).1

  pub pack_done :
      pack_refusal K t before ≡ None → (m : ℕ) (chip : Chip L) (after : List (Placed L)) → m ≡ t.plan.size
      → after ≡ packed_list K t no_pins before → chip ≡ chip_around K (take m after) → Packs K t before (Ok chip) after
  pack_done none m chip after =
      made_outcome K t before no_pins (after_pack K t before) (room none) m chip after
      (outcome_allowed K (pack_refusal K t before) before (packed_outcome K t no_pins before) none)

  pub pack_shows :
      Lawful K → (answer : Result (Chip L) PackRefusal) (after : List (Placed L)) → Packs K t before answer after
      → ShowsPacking K t before answer after
  pack_shows law answer after gives =
      carried_over (ShowsChip K t before) answer after (after_pack K t before) gives
      (pack_answers K law.sum (join_laws K law) t feasible before)

  pub pack_shows_paths :
      Lawful K → (answer : Result (Chip L) PackRefusal) (after : List (Placed L)) → Packs K t before answer after
      → ShowsLongest K t before answer after
  pack_shows_paths law answer after gives =
      carried_over (ShowsPaths K t before) answer after (after_pack K t before) gives
      (pack_paths K law.sum (lawful_later K law) t feasible before)

  -- pack with a module pinned
  module _ (p : Pin L) where
    abbrev pins : Pins L
    pins = pin_of p

    abbrev refusal : Option PinnedRefusal
    refusal = pin_refusal K t before p.«module» p.across p.up

    pub ready_pinned : refusal ≡ None → ReadyToPack K t pins (length before)
    ready_pinned allowed =
        let q = not_refused_pinned K t before p.«module» p.across p.up allowed in
        ready K t before feasible q.0 pins q.2

    -- the outcome, by whether there is a place
    abbrev nowhere : Outcome L PinnedRefusal
    nowhere = record { answer = Err pinned.NoPlace; results = packed_list K t no_pins before }

    pinned_outcome :
        refusal ≡ None
        → after_pack_pinned K t before p.«module» p.across p.up
        ≡ cond (no_place K t pins) nowhere (packed_outcome K t pins before)
    pinned_outcome allowed =
        outcome_allowed K refusal before (cond (no_place K t pins) nowhere (packed_outcome K t pins before)) allowed

    pub pinned_done :
        refusal ≡ None → no_place K t pins ≡ false
        → (m : ℕ) (chip : Chip L) (after : List (Placed L)) → m ≡ t.plan.size → after ≡ packed_list K t pins before
        → chip ≡ chip_around K (take m after) → PacksPinned K t before p (Ok chip) after
    pinned_done allowed place m chip after =
        made_outcome K t before pins (after_pack_pinned K t before p.«module» p.across p.up)
        (room (not_refused_pinned K t before p.«module» p.across p.up allowed).0) m chip after
        (pinned_outcome allowed ∙ cond-false (no_place K t pins) nowhere (packed_outcome K t pins before) place)

    -- packing again leaves the list of the second packing
    packed_again : packed_list K t no_pins (packed_list K t pins before) ≡ packed_list K t no_pins before
    packed_again =
        let n = t.plan.size in
        ap (λ rest. map (packed_module K t no_pins) (range_with_len 0 n) ++ rest)
        (drop_at (map (packed_module K t pins) (range_with_len 0 n)) (drop n before) n
        (length-map-range_with_len (packed_module K t pins) 0 n))

    pub pinned_nowhere :
        refusal ≡ None → no_place K t pins ≡ true → (first after : List (Placed L)) → first ≡ packed_list K t pins before
        → after ≡ packed_list K t no_pins first → PacksPinned K t before p (Err pinned.NoPlace) after
    pinned_nowhere allowed stuck first after list again =
        subst (λ o. Gives o (Err pinned.NoPlace) after)
        (sym (pinned_outcome allowed ∙ cond-true (no_place K t pins) nowhere (packed_outcome K t pins before) stuck))
        (refl, again ∙ ap (packed_list K t no_pins) list ∙ packed_again)

    pub pinned_shows :
        Lawful K → (answer : Result (Chip L) PinnedRefusal) (after : List (Placed L)) → PacksPinned K t before p answer after
        → ShowsPinned K t before p answer after
    pinned_shows law answer after gives =
        carried_over (TellsPinned K t before p.«module» p.across p.up) answer after
        (after_pack_pinned K t before p.«module» p.across p.up) gives
        (pinned_answers K law.sum (join_laws K law) t feasible before p.«module» p.across p.up)

  -- pack with a module rotated once more
  module _ (a : ℕ) where
    -- packing the task with the module rotated once more
    pub rotated_packed :
        Lawful K → rotation_refusal K t before a ≡ None → (u : Task L) (chip : Chip L) (after : List (Placed L))
        → u ≡ rotated_task t a → PacksFreely K u before chip after → PacksOnceMore K t before a chip after
    rotated_packed law allowed u chip after same packed =
        let looked = rotated_task t a in
        let none = (not_refused_rotated K t before a allowed).0 in
        let out : Gives (packed_outcome K {E = PackRefusal} looked no_pins before) (Ok chip) after =
        subst (λ o. Gives o (Ok chip) after)
        (outcome_allowed K (pack_refusal K looked before) before (packed_outcome K looked no_pins before) none)
        (subst (λ v. Packs K v before (Ok chip) after) same packed.outcome) in
        let made : chip ≡ packed_chip K looked no_pins = cc out.0 in
        let gives : PacksRotated K t before a (Ok chip) after =
        subst (λ o. Gives o (Ok chip) after)
        (sym (outcome_allowed K (rotation_refusal K t before a) before (packed_outcome K looked no_pins before) allowed))
        ((λ x. Ok (made x)), out.1) in
        record {
          outcome = gives;
          least =
              carried_over (ShowsChip K looked before) (Ok chip) after (after_pack_rotated K t before a) gives
              (rotated_answers K law.sum (join_laws K law) t feasible before a);
          longest =
              carried_over (ShowsPaths K looked before) (Ok chip) after (after_pack_rotated K t before a) gives
              (rotated_paths K law.sum (lawful_later K law) t feasible before a);
        }

-- a set with one module toggled makes the task with that module rotated once more
pub toggled_task :
    {L : Type 0} (plan : Floorplan) (sides : List (Sides L)) (before after : ℕ → Bool) (a : ℕ) → a < 64
    → ((k : ℕ) → after k ≡ (if nat_lt a 64 && k == a then not (before k) else before k))
    → ◌≡◌ {A = Task L} (record { plan = plan; rotated = after; sides = sides })
    (rotated_task (record { plan = plan; rotated = before; sides = sides }) a)
toggled_task plan sides before after a h same x =
    record {
      plan = plan;
      rotated = λ k.
          (same k ∙ ap (λ b. if b && k == a then not (before k) else before k) (lt-ltb a 64 h)) x;
      sides = sides;
    }
