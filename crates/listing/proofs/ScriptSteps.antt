-- What reading one script line says of what the rest of the script prints.
use Rattle.std.proofs.Common.{◌≡◌, ℕ, zero, suc, ◌+◌, ◌-◌, ◌<◌, ◌≤◌, Bool, true, false, cond, List, [], ◌++◌, length, Some, None, Ok, Err, MatchBool, Option, Result, sym, refl, ap, ◌∙◌, arith, Bor, ltb-true}
use Rattle.listing.specs.CommandLines.{command_lines, state_after}
use Rattle.listing.specs.FaultLine.{fault_line, finding_line}
use Rattle.listing.specs.Line.{Appends}
use Rattle.listing.specs.ScriptLines.{fault_or, lines_from}
use Rattle.plans.specs.Kinds.{Count}
use Rattle.plans.specs.Model.{State}
use Rattle.plans.specs.declared.measures.Sides.{Sides}
use Rattle.sheets.specs.Checks.{first}
use Rattle.sheets.specs.Lines.{goes_on, width_at}
use Rattle.sheets.specs.Parsing.{Tells}
use Rattle.sheets.specs.Script.{ByFirst, ReadsLine, line_read, script_checks}
use Rattle.sheets.specs.declared.command.ScriptLine.{ScriptLine}
use Rattle.sheets.specs.declared.fault.Fault.{Fault}
use Rattle.sheets.specs.declared.fault.Finding.{Finding}
use Rattle.sheets.specs.declared.place.Place.{Place}
use Rattle.std.proofs.lemmas.List.{append_assoc}

module _ (plan : Bor (List ℕ)) (at : Place) where
  -- what reading answers, by whether the sheet goes on and by the first fault
  abbrev ReadAs : Bool → Option Finding → Result (Option ScriptLine) Fault → Type 0
  ReadAs b o r = MatchBool b (ByFirst plan at o r) (r ≡ Ok None)

  -- the line was read: there is one, without a fault
  some_by :
      (b : Bool) (o : Option Finding) (l : ScriptLine) → ReadAs b o (Ok (Some l))
      → (b ≡ true) × (o ≡ None) × (l ≡ line_read plan.now at)
  some_by true None l h = (refl, refl, cc)
  some_by true (Some f) l h = absurd h
  some_by false o l h = let z : ◌≡◌ {A = ℕ} 0 1 = cc in absurd (omega arith)

  -- the sheet has ended
  none_by :
      (b : Bool) (o : Option Finding) → ReadAs b o (Ok None) → b ≡ false
  none_by true None h = let z : ◌≡◌ {A = ℕ} 0 1 = cc in absurd (omega arith)
  none_by true (Some f) h = absurd h
  none_by false o h = refl

  -- the line has a fault
  fault_by :
      (b : Bool) (o : Option Finding) (e : Fault) → ReadAs b o (Err e)
      → (b ≡ true) × ((f : Finding) × (o ≡ Some f) × Tells plan f e)
  fault_by true None e h = let z : ◌≡◌ {A = ℕ} 0 1 = cc in absurd (omega arith)
  fault_by true (Some f) e h = (refl, (f, refl, h))
  fault_by false o e h = let z : ◌≡◌ {A = ℕ} 0 1 = cc in absurd (omega arith)

  -- the next line starts farther on
  pub shorter : (l : ScriptLine) → ReadsLine plan at (Ok (Some l)) → length plan.now - l.next.offset < length plan.now - at.offset
  shorter l reads =
      let is = some_by (goes_on plan.now at.offset) (first (script_checks plan.now at.line at.offset)) l reads in
      let inside : at.offset < length plan.now = ltb-true at.offset (length plan.now) is.0 in
      let next : l.next.offset ≡ at.offset + width_at plan.now at.offset + 1 = ap (λ x. x.next.offset) is.2 in
      omega arith

  module _ (sides : List (Sides Count)) (s : State) where
    -- what at most n lines print, where the line has no fault
    line_first :
        (n : ℕ) → goes_on plan.now at.offset ≡ true → first (script_checks plan.now at.line at.offset) ≡ None
        → lines_from plan.now sides (suc n) at s
        ≡ command_lines sides s (line_read plan.now at).command
        ++ lines_from plan.now sides n (line_read plan.now at).next (state_after s (line_read plan.now at).command)
    line_first n on none =
        let more = command_lines sides s (line_read plan.now at).command ++ lines_from plan.now sides n (line_read plan.now at).next (state_after s (line_read plan.now at).command) in
        ap (λ b. cond b (fault_or (first (script_checks plan.now at.line at.offset)) more) []) on ∙ ap (λ o. fault_or o more) none

    -- a line that was read prints its command's lines, and the rest is printed at the state after it
    pub line_listed :
        (l : ScriptLine) (n : ℕ) → ReadsLine plan at (Ok (Some l)) → length plan.now ≤ at.offset + n
        → (k : ℕ) × (length plan.now ≤ l.next.offset + k)
        × (lines_from plan.now sides n at s
        ≡ command_lines sides s l.command ++ lines_from plan.now sides k l.next (state_after s l.command))
    line_listed l zero reads enough =
        let is = some_by (goes_on plan.now at.offset) (first (script_checks plan.now at.line at.offset)) l reads in
        let inside : at.offset < length plan.now = ltb-true at.offset (length plan.now) is.0 in
        absurd (omega arith)
    line_listed l (suc k) reads enough =
        let is = some_by (goes_on plan.now at.offset) (first (script_checks plan.now at.line at.offset)) l reads in
        let next : l.next.offset ≡ at.offset + width_at plan.now at.offset + 1 = ap (λ x. x.next.offset) is.2 in
        (k, omega arith, line_first k is.0 is.1 ∙ ap (λ x. command_lines sides s x.command ++ lines_from plan.now sides k x.next (state_after s x.command)) (sym is.2))

    -- where the sheet has ended, nothing more is printed
    pub end_listed : (n : ℕ) → ReadsLine plan at (Ok None) → lines_from plan.now sides n at s ≡ []
    end_listed zero reads = refl
    end_listed (suc n) reads =
        let ended = none_by (goes_on plan.now at.offset) (first (script_checks plan.now at.line at.offset)) reads in
        ap (λ b. cond b (fault_or (first (script_checks plan.now at.line at.offset)) (command_lines sides s (line_read plan.now at).command ++ lines_from plan.now sides n (line_read plan.now at).next (state_after s (line_read plan.now at).command))) []) ended

    -- a fault prints its line and no more
    pub fault_listed_last :
        (e : Fault) (n : ℕ) → ReadsLine plan at (Err e) → length plan.now ≤ at.offset + n
        → lines_from plan.now sides n at s ≡ fault_line e.wrong e.sheet e.line e.column
    fault_listed_last e zero reads enough =
        let is = fault_by (goes_on plan.now at.offset) (first (script_checks plan.now at.line at.offset)) e reads in
        let inside : at.offset < length plan.now = ltb-true at.offset (length plan.now) is.0 in
        absurd (omega arith)
    fault_listed_last e (suc n) reads enough =
        let is = fault_by (goes_on plan.now at.offset) (first (script_checks plan.now at.line at.offset)) e reads in
        let more = command_lines sides s (line_read plan.now at).command ++ lines_from plan.now sides n (line_read plan.now at).next (state_after s (line_read plan.now at).command) in
        let told : finding_line is.1.0 ≡ fault_line e.wrong e.sheet e.line e.column = simp (is.1.2.wrong, is.1.2.named, is.1.2.line, is.1.2.column) in
        ap (λ b. cond b (fault_or (first (script_checks plan.now at.line at.offset)) more) []) is.0
        ∙ ap (λ o. fault_or o more) is.1.1
        ∙ told

-- one part more is written, and the rest is what is left of the whole
pub written_on :
    (written written' part left left' whole : List ℕ) → written' ≡ written ++ part → left ≡ part ++ left' → written ++ left ≡ whole
    → written' ++ left' ≡ whole
written_on written written' part left left' whole more splits all =
    ap (λ xs. xs ++ left') more ∙ append_assoc written part left' ∙ ap (λ xs. written ++ xs) (sym splits) ∙ all

-- the last part is written behind what was written before
pub appended_last :
    {E : Type 0} (r : Result (Unit {0}) E) (old before after bytes whole : List ℕ) → before ++ bytes ≡ old ++ whole
    → Appends before after bytes r → Appends old after whole r
appended_last (Ok u) old before after bytes whole e h = h ∙ e
appended_last (Err x) old before after bytes whole e h = tt
