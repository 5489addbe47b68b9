-- Lines that a script could still have, beyond its bytes, print nothing.
use Rattle.std.proofs.Common.{◌≡◌, ℕ, zero, suc, ◌+◌, ◌≤◌, false, cond, List, [], ◌++◌, length, sym, refl, ap, arith}
use Rattle.listing.specs.CommandLines.{command_lines, state_after}
use Rattle.listing.specs.ScriptLaw.{RunsToItsEnd}
use Rattle.listing.specs.ScriptLines.{fault_or, lines_from}
use Rattle.plans.specs.Kinds.{Count}
use Rattle.plans.specs.Model.{State}
use Rattle.plans.specs.declared.measures.Sides.{Sides}
use Rattle.sheets.specs.Checks.{first}
use Rattle.sheets.specs.Lines.{goes_on, width_at}
use Rattle.sheets.specs.Script.{script_checks, line_read}
use Rattle.sheets.specs.declared.place.Place.{Place}
use Rattle.std.proofs.lemmas.Bool.{le-ltb}

module _ (plan : List ℕ) (sides : List (Sides Count)) where
  -- what a line and those after it print
  abbrev line : Place → State → List ℕ → List ℕ
  line at s others =
      cond (goes_on plan at.offset) (fault_or (first (script_checks plan at.line at.offset)) (command_lines sides s (line_read plan at).command ++ others)) []

  -- at the end of the sheet nothing is printed
  ended : (n : ℕ) (at : Place) (s : State) → goes_on plan at.offset ≡ false → lines_from plan sides n at s ≡ []
  ended zero at s e = refl
  ended (suc n) at s e =
      ap (λ b. cond b (fault_or (first (script_checks plan at.line at.offset)) (command_lines sides s (line_read plan at).command ++ lines_from plan sides n (line_read plan at).next (state_after s (line_read plan at).command))) []) e

  -- two numbers of lines that are both enough print the same
  enough :
      (n k : ℕ) (at : Place) (s : State) → length plan ≤ at.offset + n → length plan ≤ at.offset + k
      → lines_from plan sides n at s ≡ lines_from plan sides k at s
  enough zero k at s h i =
      let past : goes_on plan at.offset ≡ false = le-ltb at.offset (length plan) (omega arith) in
      sym (ended k at s past)
  enough (suc n) zero at s h i =
      let past : goes_on plan at.offset ≡ false = le-ltb at.offset (length plan) (omega arith) in
      ended (suc n) at s past
  enough (suc n) (suc k) at s h i =
      let next = (line_read plan at).next in
      let far : next.offset ≡ at.offset + width_at plan at.offset + 1 = refl in
      let rest = enough n k next (state_after s (line_read plan at).command) (omega arith) (omega arith) in
      ap (line at s) rest

pub runs_to_its_end : RunsToItsEnd
runs_to_its_end plan sides n at s h = enough plan sides n (length plan) at s (omega arith) (omega arith)
