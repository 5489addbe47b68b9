-- A done parsing: what the load is given, that it can be given, and the outcome by what the load answers.
use Rattle.std.proofs.Common.{MatchResult, ◌≡◌, ℕ, ◌*◌, ◌≤◌, List, length, take, Some, None, Ok, Err, Result, sym, ap, ◌∙◌, subst, ap₂, inr, arith, Bor}
use Rattle.std.specs.Option.{option_map}
use Rattle.std.proofs.lemmas.Nat.{mul-le}
use Rattle.std.proofs.lemmas.List.FromFn.{length-map-range_with_len}
use Rattle.plans.proofs.LoadLaw.{load_law}
use Rattle.plans.specs.Changes.{Follows, after_load, unless}
use Rattle.plans.specs.Search.{or_else}
use Rattle.plans.specs.Tables.{Floorplan}
use Rattle.plans.specs.declared.refusals.LoadRefusal.{LoadRefusal}
use Rattle.sheets.specs.Checks.{first, NoneApplies}
use Rattle.sheets.proofs.CheckLemmas.{none_applies}
use Rattle.sheets.specs.Parsing.{Held, Answers, AnswersBy, Leaves, LeavesBy, Parses, Read, Tells, checks_for, of_sheet}
use Rattle.sheets.specs.Reading.{modules_of, code_read, place_read}
use Rattle.sheets.specs.declared.fault.Fault.{Fault}
use Rattle.sheets.specs.declared.parsed.Parsed.{Parsed}
use Rattle.reading.specs.Outcome.{Answered, FirstRead, first_fault, means_after}
use Rattle.reading.specs.PlanFaults.{plan_finding}
use Rattle.reading.specs.Rows.{WellPlaced, ToldInPlan}
use Rattle.reading.specs.Written.{codes_written, sequence_written, refusal_written, floorplan_written}
use Rattle.reading.proofs.Loads.{front_read, load_refused, load_accepted, answered_first, told_in_plan, shape_right}
use Rattle.reading.proofs.Outcomes.{parsed_none, of_plan}
use Rattle.reading.proofs.Passed.{few_modules, code_room, place_room, well_placed}

-- a done parsing, which left its lists as long as they were
pub record Done (sizes plan : Bor (List ℕ)) (before after : Held) (p : Parsed) : Type 0 where
  pub answered : Answers sizes plan before (Ok p)
  pub left : Leaves sizes.now plan.now before after
  pub codes_kept : length after.codes ≡ length before.codes
  pub places_kept : length after.places ≡ length before.places

module _ {sizes plan : Bor (List ℕ)} {before after : Held} {p : Parsed} (d : Done sizes plan before after p) where
  passed : first (checks_for sizes.now plan.now before) ≡ None
  passed = parsed_none sizes plan (first (checks_for sizes.now plan.now before)) p d.answered

  done : Read sizes.now plan.now after
  done = subst (λ o. LeavesBy sizes.now plan.now o before after) passed d.left

  parses : Parses plan.now p
  parses = subst (λ o. AnswersBy sizes plan o (Ok p)) passed d.answered

  same : p.modules ≡ modules_of plan.now
  same = parses.modules

  few : p.modules ≤ 64
  few = let h = few_modules sizes.now plan.now before passed in omega (arith, h, same)

  -- the codes are few, and lie in their list as the places do in theirs
  pub square_small : p.modules * p.modules ≤ 4096
  square_small = let h = mul-le p.modules p.modules 64 64 few few in omega (arith, h)

  pub codes_end : p.modules * p.modules ≤ length after.codes
  codes_end =
      let h = mul-le p.modules p.modules 64 64 few few in
      let room = code_room sizes.now plan.now before passed in
      omega (arith, h, room, d.codes_kept)

  pub places_end : p.modules ≤ length after.places
  places_end = let room = place_room sizes.now plan.now before passed in omega (arith, few, room, d.places_kept)

  -- and what the refusals tell lies in the sheet
  pub placed : WellPlaced plan.now p.modules
  placed = subst (WellPlaced plan.now) (sym same) (well_placed sizes.now plan.now before passed)

  codes_loaded : take (p.modules * p.modules) after.codes ≡ codes_written plan.now
  codes_loaded =
      let square : p.modules * p.modules ≡ modules_of plan.now * modules_of plan.now = ap₂ (λ a b. a * b) same same in
      ap (λ k. take k after.codes) square
      ∙ front_read (code_read plan.now (modules_of plan.now)) (modules_of plan.now * modules_of plan.now) after.codes done.codes_read (omega (arith, square, codes_end))

  places_loaded : take p.modules after.places ≡ sequence_written plan.now
  places_loaded =
      ap (λ k. take k after.places) same
      ∙ front_read (place_read plan.now (modules_of plan.now)) (modules_of plan.now) after.places done.places_read (omega (arith, same, places_end))

  -- the load that is done
  abbrev pub Loaded : Result (Unit {0}) LoadRefusal → Floorplan → Floorplan → Type 0
  Loaded = Follows (after_load (take (p.modules * p.modules) after.codes) (take p.modules after.places))

  as_written : (r : Result (Unit {0}) LoadRefusal) (old new : Floorplan) → Loaded r old new → Follows (unless (refusal_written plan.now) (floorplan_written plan.now)) r old new
  as_written r old new h = subst (λ l. Follows l r old new) (ap₂ after_load codes_loaded places_loaded) h

  no_check : NoneApplies (checks_for sizes.now plan.now before)
  no_check = none_applies (checks_for sizes.now plan.now before) passed

  module _ (old new : Floorplan) (accepted : Loaded (Ok tt) old new) where
    by_load : (refusal_written plan.now ≡ None) × (new ≡ floorplan_written plan.now)
    by_load = load_accepted (refusal_written plan.now) (floorplan_written plan.now) old new (as_written (Ok tt) old new accepted)

    none : first_fault sizes.now plan.now before ≡ None
    none = ap₂ (λ o r. or_else o (option_map (plan_finding plan.now (modules_of plan.now)) r)) passed by_load.0

    pub done_answered : Answered sizes plan before (Ok p)
    done_answered = subst (λ o. AnswersBy sizes plan o (Ok p)) (sym none) parses

    pub done_means : new ≡ means_after plan.now (first_fault sizes.now plan.now before) old
    done_means = by_load.1 ∙ ap (λ o. means_after plan.now o old) (sym none)

    pub done_law : FirstRead sizes plan before (Ok p)
    done_law = (no_check, load_law.accepted (codes_written plan.now) (sequence_written plan.now) by_load.0)

  module _ (old new : Floorplan) (e : LoadRefusal) (refused : Loaded (Err e) old new) where
    refused_by : (refusal_written plan.now ≡ Some e) × (new ≡ old)
    refused_by = load_refused (refusal_written plan.now) (floorplan_written plan.now) old new e (as_written (Err e) old new refused)

    some : first_fault sizes.now plan.now before ≡ Some (plan_finding plan.now (modules_of plan.now) e)
    some = ap₂ (λ o r. or_else o (option_map (plan_finding plan.now (modules_of plan.now)) r)) passed refused_by.0

    pub refused_told : ToldInPlan p.modules e
    refused_told =
        subst (λ k. ToldInPlan k e) (length-map-range_with_len (place_read plan.now (modules_of plan.now)) 0 (modules_of plan.now) ∙ sym same)
        (told_in_plan (codes_written plan.now) (sequence_written plan.now) e refused_by.0)

    module _ (f : Fault) (told : Tells plan (plan_finding plan.now p.modules e) f) where
      tells : Tells plan (plan_finding plan.now (modules_of plan.now) e) f
      tells = subst (λ k. Tells plan (plan_finding plan.now k e) f) same told

      pub refused_answered : Answered sizes plan before (Err f)
      refused_answered =
          subst (λ o. AnswersBy sizes plan o (Err f)) (sym some)
          (subst (λ s. Tells (of_sheet sizes plan s) (plan_finding plan.now (modules_of plan.now) e) f) (sym (of_plan plan.now (modules_of plan.now) e)) tells)

      pub refused_law : FirstRead sizes plan before (Err f)
      refused_law =
          let m = modules_of plan.now in
          let stands = answered_first (codes_written plan.now) (sequence_written plan.now) e refused_by.0 in
          let long : length (sequence_written plan.now) ≡ m = length-map-range_with_len (place_read plan.now m) 0 m in
          let full = length-map-range_with_len (code_read plan.now m) 0 (m * m) ∙ ap₂ (λ a b. a * b) (sym long) (sym long) in
          inr (
            no_check,
            record {
              refusal = e;
              stands = stands;
              shaped = shape_right (codes_written plan.now) (sequence_written plan.now) e (omega (arith, long, few, same)) full stands.0;
              told = tells;
            },
          )

    pub refused_means : new ≡ means_after plan.now (first_fault sizes.now plan.now before) old
    refused_means = refused_by.1 ∙ ap (λ o. means_after plan.now o old) (sym some)

  -- the outcome by what the load answers
  module _ (old new : Floorplan) where
    pub told_if_refused : (r : Result (Unit {0}) LoadRefusal) → Loaded r old new → (e : LoadRefusal) → r ≡ Err e → ToldInPlan p.modules e
    told_if_refused r loaded e same = refused_told old new e (subst (λ x. Loaded x old new) same loaded)

    -- the refusal behind a fault
    pub refusal_told :
        (f : Fault) (r : Result (Unit {0}) LoadRefusal) → Loaded r old new → MatchResult r (λ _. ⊥) (λ e. Tells plan (plan_finding plan.now p.modules e) f)
        → (e : LoadRefusal) × Loaded (Err e) old new × Tells plan (plan_finding plan.now p.modules e) f
    refusal_told f (Ok x) loaded told = absurd told
    refusal_told f (Err e) loaded told = (e, loaded, told)
