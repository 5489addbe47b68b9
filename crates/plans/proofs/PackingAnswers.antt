-- The answers of the three packing calls: an answered chip with its list shows the least placement.
use Rattle.std.proofs.Common.{◌≡◌, ℕ, ◌-◌, ◌≤◌, Bool, true, false, cond, ◌||◌, ltb, leb, List, map, length, get_or, drop, Some, None, Ok, Err, Option, refl, ap, ◌∙◌, arith}
use Rattle.std.specs.List.{range_with_len}
use Rattle.std.specs.Option.{option_map}
use Rattle.std.proofs.lemmas.List.FromFn.{length-map-range_with_len, get_or-map-range_with_len}
use Rattle.std.proofs.lemmas.List.{length-append, length-drop, get_or_append_left, get_or-append_right, get_or-drop}
use Rattle.plans.proofs.LeastPlacements.{packed_longest}
use Rattle.plans.proofs.PackRefusals.{not_refused_packable, not_refused_pinned, not_refused_rotated}
use Rattle.plans.proofs.PackingLaws.{pack_law, pinned_law, rotated_law}
use Rattle.plans.specs.Kinds.{Kind, SumLaws, JoinLaws, pin_limit}
use Rattle.plans.specs.LaterOfTwo.{LaterLaws}
use Rattle.plans.specs.Packing.{Task, Pins, no_pins, one_pin, packed_module, packed_list, rotated_task}
use Rattle.plans.specs.PackingAnswers.{ShowsPlacement, ShowsLeast, ListsLongest, ShowsChip, ShowsPaths, TellsPinned}
use Rattle.plans.specs.PackingCalls.{Outcome, pack_refusal, pin_refusal, rotation_refusal, no_place, refused_or, packed_outcome, after_pack, after_pack_pinned, after_pack_rotated}
use Rattle.plans.specs.PackingTheorems.{Packable, packed_placement}
use Rattle.plans.specs.Placements.{LeastPlacement}
use Rattle.plans.specs.Search.{or_else, refusing}
use Rattle.plans.specs.Tables.{Feasible}
use Rattle.plans.specs.declared.measures.Placed.{Placed}
use Rattle.plans.specs.declared.measures.Chip.{Chip}
use Rattle.plans.specs.declared.pack_refusals.PackRefusal.{PackRefusal}
use Rattle.plans.specs.declared.pack_refusals.PinnedRefusal.{PinnedRefusal}
use Rattle.plans.specs.declared.pack_refusals.PinnedRefusal.TheVariants.{Packing, NoModule, FarPin, NoPlace}

module _ {L : Type 0} (K : Kind L) where
  -- a call that answers a chip was not refused
  answered_not_refused :
      {E : Type 0} (r : Option E) (results : List (Placed L)) (o : Outcome L E) (chip : Chip L)
      → (refused_or K r results o).answer ≡ Ok chip → (r ≡ None) × (refused_or K r results o ≡ o)
  answered_not_refused (Some e) results o chip h = let z : ◌≡◌ {A = ℕ} 0 1 = cc in absurd (omega arith)
  answered_not_refused None results o chip h = (refl, refl)

  module _ (t : Task L) where
    -- the list of a packing shows its near and far edges
    pub list_shows :
        (pins : Pins L) (results : List (Placed L)) → t.plan.size ≤ length results
        → ShowsPlacement K t (packed_placement K t pins) results (packed_list K t pins results)
    list_shows pins results room =
        let n = t.plan.size in
        let shown = map (packed_module K t pins) (range_with_len 0 n) in
        let len : length shown ≡ n = length-map-range_with_len (packed_module K t pins) 0 n in
        record {
          records = λ i d h.
              get_or_append_left shown (drop n results) d i (omega (arith, len))
              ∙ get_or-map-range_with_len (packed_module K t pins) 0 n i i d h (omega arith);
          others = λ i d h.
              get_or-append_right shown (drop n results) n i d len h ∙ get_or-drop n results (i - n) d
              ∙ ap (λ k. get_or results k d) (omega arith);
          long = length-append shown (drop n results) ∙ omega (arith, len, length-drop n results);
        }

    -- an outcome that is a packing shows it
    outcome_shows :
        {E : Type 0} (pins : Pins L) (results : List (Placed L)) (o : Outcome L E) (chip : Chip L)
        → t.plan.size ≤ length results → LeastPlacement K t pins (packed_placement K t pins)
        → o ≡ packed_outcome K t pins results → o.answer ≡ Ok chip → ShowsLeast K t pins results o.results chip
    outcome_shows pins results o chip room least same answer =
        record {
          placement = packed_placement K t pins;
          least = least;
          list = rw same (list_shows pins results room);
          chip = cc;
        }

module _ {L : Type 0} (K : Kind L) (results : List (Placed L)) (nowhere placed : Outcome L PinnedRefusal) where
  -- a chip comes from the packing, where nothing refuses and there is a place
  chip_placed :
      (r : Option PinnedRefusal) (b : Bool) (chip : Chip L) → ((c : Chip L) → nowhere.answer ≡ Ok c → ⊥)
      → (refused_or K r results (cond b nowhere placed)).answer ≡ Ok chip
      → (r ≡ None) × (b ≡ false) × (refused_or K r results (cond b nowhere placed) ≡ placed)
  chip_placed (Some e) b chip other h = let z : ◌≡◌ {A = ℕ} 0 1 = cc in absurd (omega arith)
  chip_placed None true chip other h = absurd (other chip h)
  chip_placed None false chip other h = (refl, refl, refl)

  -- "no place" comes from the test for it, where nothing else refuses
  nowhere_tested :
      (r : Option PinnedRefusal) (b : Bool) → (r ≡ Some NoPlace → ⊥) → (placed.answer ≡ Err NoPlace → ⊥)
      → (refused_or K r results (cond b nowhere placed)).answer ≡ Err NoPlace
      → (r ≡ None) × (b ≡ true) × (refused_or K r results (cond b nowhere placed) ≡ nowhere)
  nowhere_tested (Some e) b never other h = absurd (never (cc))
  nowhere_tested None true never other h = (refl, refl, refl)
  nowhere_tested None false never other h = absurd (other h)

-- no other refusal is "no place"
other_refusals :
    (o : Option PackRefusal) (b c : Bool)
    → or_else (option_map Packing o) (or_else (refusing b NoModule) (refusing c FarPin)) ≡ Some NoPlace → ⊥
other_refusals (Some e) b c h = let z : ◌≡◌ {A = ℕ} 0 1 = cc in omega arith
other_refusals None true c h = let z : ◌≡◌ {A = ℕ} 0 1 = cc in omega arith
other_refusals None false true h = let z : ◌≡◌ {A = ℕ} 0 1 = cc in omega arith
other_refusals None false false h = let z : ◌≡◌ {A = ℕ} 0 1 = cc in omega arith

module _ {L : Type 0} (K : Kind L) (t : Task L) (results : List (Placed L)) where
  -- a chip is answered where nothing refuses, and then the outcome is a packing
  packed_told :
      (chip : Chip L) → (after_pack K t results).answer ≡ Ok chip
      → (pack_refusal K t results ≡ None) × (after_pack K t results ≡ packed_outcome K t no_pins results)
  packed_told chip = answered_not_refused K (pack_refusal K t results) results (packed_outcome K t no_pins results) chip

  -- so too with a module rotated once more
  rotated_told :
      (a : ℕ) (chip : Chip L) → (after_pack_rotated K t results a).answer ≡ Ok chip
      → (rotation_refusal K t results a ≡ None)
      × (after_pack_rotated K t results a ≡ packed_outcome K (rotated_task t a) no_pins results)
  rotated_told a chip =
      answered_not_refused K (rotation_refusal K t results a) results (packed_outcome K (rotated_task t a) no_pins results) chip

-- pack
module _ {L : Type 0} (K : Kind L) (sum : SumLaws K) (join : JoinLaws K) (t : Task L) (feasible : Feasible t.plan) (results : List (Placed L)) where
  pub pack_answers : ShowsChip K t results (after_pack K t results)
  pack_answers chip answer =
      let q = packed_told K t results chip answer in
      let room = (not_refused_packable K t results feasible q.0).1 in
      outcome_shows K t no_pins results (after_pack K t results) chip room
      (pack_law K sum join t feasible results q.0).least q.1 answer

  pub rotated_answers : (a : ℕ) → ShowsChip K (rotated_task t a) results (after_pack_rotated K t results a)
  rotated_answers a chip answer =
      let q = rotated_told K t results a chip answer in
      let room = (not_refused_packable K t results feasible (not_refused_rotated K t results a q.0).0).1 in
      outcome_shows K (rotated_task t a) no_pins results (after_pack_rotated K t results a) chip room
      (rotated_law K sum join t feasible results a q.0).least q.1 answer

  -- pack with a module pinned
  module _ (a : ℕ) (across up : L) where
    abbrev pins : Pins L
    pins = one_pin a across up

    abbrev nowhere : Outcome L PinnedRefusal
    nowhere = record { answer = Err NoPlace; results = packed_list K t no_pins results }

    -- what an answered chip and "no place" tell
    chip_told :
        (chip : Chip L) → (after_pack_pinned K t results a across up).answer ≡ Ok chip
        → (pin_refusal K t results a across up ≡ None) × (no_place K t pins ≡ false)
        × (after_pack_pinned K t results a across up ≡ packed_outcome K t pins results)
    chip_told chip answer =
        chip_placed K results nowhere (packed_outcome K t pins results) (pin_refusal K t results a across up) (no_place K t pins) chip
        (λ c h. let z : ◌≡◌ {A = ℕ} 0 1 = cc in omega arith) answer

    nowhere_told :
        (after_pack_pinned K t results a across up).answer ≡ Err NoPlace
        → (pin_refusal K t results a across up ≡ None) × (no_place K t pins ≡ true)
        × (after_pack_pinned K t results a across up ≡ nowhere)
    nowhere_told answer =
        nowhere_tested K results nowhere (packed_outcome K t pins results) (pin_refusal K t results a across up) (no_place K t pins)
        (other_refusals (pack_refusal K t results) (leb t.plan.size a) (ltb pin_limit (K.reach across) || ltb pin_limit (K.reach up)))
        (λ h. let z : ◌≡◌ {A = ℕ} 0 1 = cc in omega arith) answer

    -- there is room for the results
    room : pin_refusal K t results a across up ≡ None → t.plan.size ≤ length results
    room none = (not_refused_packable K t results feasible (not_refused_pinned K t results a across up none).0).1

    pub pinned_answers : TellsPinned K t results a across up (after_pack_pinned K t results a across up)
    pinned_answers =
        record {
          answered = λ chip answer.
              let q = chip_told chip answer in
              outcome_shows K t pins results (after_pack_pinned K t results a across up) chip (room q.0)
              ((pinned_law K sum join t feasible results a across up q.0).least q.1) q.2 answer;
          nowhere = λ answer.
              let q = nowhere_told answer in
              (q.0, (pinned_law K sum join t feasible results a across up q.0).none q.1);
          always = λ none nothing.
              let stuck = (pinned_law K sum join t feasible results a across up none).only nothing in
              ap (λ o. o.answer)
              (ap (λ r. refused_or K r results (cond (no_place K t pins) nowhere (packed_outcome K t pins results))) none
              ∙ ap (λ b. cond b nowhere (packed_outcome K t pins results)) stuck);
          unpinned = λ answer.
              let q = nowhere_told answer in
              record {
                placement = packed_placement K t no_pins;
                least = (pack_law K sum join t feasible results (not_refused_pinned K t results a across up q.0).0).least;
                list = rw q.2 (list_shows K t no_pins results (room q.0));
              };
        }

-- longest paths
module _ {L : Type 0} (K : Kind L) (sum : SumLaws K) (later : LaterLaws K) (t : Task L) (feasible : Feasible t.plan) (results : List (Placed L)) where
  paths_listed :
      {E : Type 0} (u : Task L) (o : Outcome L E) → Packable K u → u.plan.size ≤ length results
      → o ≡ packed_outcome K u no_pins results → ListsLongest K u results o.results
  paths_listed u o ok room same =
      record {
        placement = packed_placement K u no_pins;
        list = rw same (list_shows K u no_pins results room);
        longest = packed_longest K sum u ok later;
      }

  pub pack_paths : ShowsPaths K t results (after_pack K t results)
  pack_paths chip answer =
      let q = packed_told K t results chip answer in
      let ok = not_refused_packable K t results feasible q.0 in
      paths_listed t (after_pack K t results) ok.0 ok.1 q.1

  pub rotated_paths : (a : ℕ) → ShowsPaths K (rotated_task t a) results (after_pack_rotated K t results a)
  rotated_paths a chip answer =
      let q = rotated_told K t results a chip answer in
      let looked = rotated_task t a in
      let ok = not_refused_packable K looked results feasible (not_refused_rotated K t results a q.0).0 in
      paths_listed looked (after_pack_rotated K t results a) ok.0 ok.1 q.1
