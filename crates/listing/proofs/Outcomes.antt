-- What the answer of reading two sheets says of their listing, by its two outcomes.
use Rattle.std.proofs.Common.{◌≡◌, ℕ, All, ◌≤◌, List, map, length, take, Some, None, Ok, Err, Option, sym, refl, ap, ◌∙◌, subst, ap₂, Bor}
use Rattle.listing.proofs.Faultless.{few_modules, sides_listed, sides_possible}
use Rattle.listing.specs.Bordered.{PossibleSides, bordered_sides}
use Rattle.listing.specs.FaultLine.{fault_line}
use Rattle.listing.specs.ScriptLines.{fault_or, lines_from}
use Rattle.listing.specs.Whole.{script_lines, script_start, sheets_fault, sides_on, start_of, whole_listing}
use Rattle.plans.specs.Search.{or_else}
use Rattle.plans.specs.Tables.{Floorplan}
use Rattle.reading.specs.Outcome.{load_fault, means_after}
use Rattle.reading.specs.Written.{floorplan_written}
use Rattle.sheets.specs.Checks.{first}
use Rattle.sheets.specs.Lines.{part}
use Rattle.sheets.specs.Parsing.{AnswersBy, Held, LeavesBy, Parses, Read}
use Rattle.sheets.specs.Reading.{all_checks, modules_of}
use Rattle.sheets.specs.Words.{head_word}
use Rattle.sheets.specs.declared.fault.Fault.{Fault}
use Rattle.sheets.specs.declared.fault.Finding.{Finding}
use Rattle.sheets.specs.declared.parsed.Parsed.{Parsed}

module _ (sizes plan : Bor (List ℕ)) where
  -- the first fault of the sheets, with room for 64 modules
  abbrev sheet_fault : Option Finding
  sheet_fault = first (all_checks sizes.now plan.now 64 4096 64)

  -- what is answered where reading is done, or finds a fault
  abbrev pub AnswersAll : Parsed → Type 0
  AnswersAll p = AnswersBy sizes plan (or_else sheet_fault (load_fault plan.now)) (Ok p)

  -- a done reading: neither the sheets nor the load have a fault
  read_done :
      (o l : Option Finding) (p : Parsed) → AnswersBy sizes plan (or_else o l) (Ok p)
      → (o ≡ None) × (l ≡ None) × Parses plan.now p
  read_done None None p a = (refl, refl, a)
  read_done None (Some f) p a = absurd a
  read_done (Some f) l p a = absurd a

  module _ (p : Parsed) (answer : AnswersAll p) (before after : Held) (leaves : LeavesBy sizes.now plan.now sheet_fault before after) where
    done : (sheet_fault ≡ None) × (load_fault plan.now ≡ None) × Parses plan.now p
    done = read_done sheet_fault (load_fault plan.now) p answer

    -- the lists hold what was read
    pub filled : Read sizes.now plan.now after
    filled = subst (λ o. LeavesBy sizes.now plan.now o before after) done.0 leaves

    pub few_parsed : p.modules ≤ 64
    few_parsed = subst (λ m. m ≤ 64) (sym done.2.modules) (few_modules sizes.now plan.now done.0)

    pub possible_parsed : p.modules ≤ length after.sides → All PossibleSides (take p.modules after.sides)
    possible_parsed room =
        subst (λ m. All PossibleSides (take m after.sides)) (sym done.2.modules)
        (sides_possible sizes.now plan.now after.sides done.0 filled.sides_there (subst (λ m. m ≤ length after.sides) done.2.modules room))

    -- the script's lines at what was loaded are the listing
    pub done_listed :
        (old new : Floorplan) → new ≡ means_after plan.now (or_else sheet_fault (load_fault plan.now)) old → p.modules ≤ length after.sides
        → lines_from plan.now (map bordered_sides (take p.modules after.sides)) (length plan.now) p.script (start_of (Some p.head) new)
        ≡ whole_listing sizes.now plan.now
    unfolding whole_listing
    done_listed old new means room =
        let m = modules_of plan.now in
        let none : sheets_fault sizes.now plan.now ≡ None = ap₂ or_else done.0 done.1 in
        let own : map bordered_sides (take p.modules after.sides) ≡ sides_on sizes.now m =
        ap (λ n. map bordered_sides (take n after.sides)) done.2.modules
        ∙ sides_listed sizes.now m after.sides filled.sides_there (subst (λ n. n ≤ length after.sides) done.2.modules room) in
        let script : p.script ≡ script_start plan.now m = λ i. record { offset = done.2.offset i; line = done.2.line i } in
        let written : new ≡ floorplan_written plan.now = means ∙ ap (λ o. means_after plan.now o old) none in
        let state : start_of (Some p.head) new ≡ start_of (head_word (part plan.now 0 4)) (floorplan_written plan.now) =
        ap₂ start_of (sym done.2.head) written in
        ap (λ sides. lines_from plan.now sides (length plan.now) p.script (start_of (Some p.head) new)) own
        ∙ ap (λ at. lines_from plan.now (sides_on sizes.now m) (length plan.now) at (start_of (Some p.head) new)) script
        ∙ ap (λ s. lines_from plan.now (sides_on sizes.now m) (length plan.now) (script_start plan.now m) s) state
        ∙ sym (ap (λ o. fault_or o (script_lines sizes.now plan.now m)) none)

  -- a fault's line is the listing, whatever would follow
  fault_by : (o : Option Finding) (e : Fault) (others : List ℕ) → AnswersBy sizes plan o (Err e) → fault_line e.wrong e.sheet e.line e.column ≡ fault_or o others
  fault_by None e others a = absurd a
  fault_by (Some f) e others a = simp (a.wrong, a.named, a.line, a.column)

  pub fault_listed :
      (e : Fault) → AnswersBy sizes plan (or_else sheet_fault (load_fault plan.now)) (Err e)
      → fault_line e.wrong e.sheet e.line e.column ≡ whole_listing sizes.now plan.now
  unfolding whole_listing
  fault_listed e a = fault_by (sheets_fault sizes.now plan.now) e (script_lines sizes.now plan.now (modules_of plan.now)) a
