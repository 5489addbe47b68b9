-- The answer of a script line says which of its checks comes first.
use Rattle.std.proofs.Common.{◌≡◌, ℕ, List, Some, None, Ok, Err, MatchBool, MatchResult, Option, Result, true, false, refl, sym, subst, Bor}
use Rattle.sheets.specs.declared.command.ScriptLine.{ScriptLine}
use Rattle.sheets.specs.declared.place.Place.{Place}
use Rattle.sheets.specs.declared.fault.Fault.{Fault}
use Rattle.sheets.specs.declared.fault.Finding.{Finding}
use Rattle.sheets.specs.Checks.{first, StandsFirst, NoneApplies}
use Rattle.sheets.specs.Lines.{goes_on}
use Rattle.sheets.specs.Parsing.{Tells}
use Rattle.sheets.specs.Script.{ByFirst, FirstOfLine, ReadsLine, script_checks}
use Rattle.sheets.proofs.CheckLemmas.{stands_first, none_applies}

module _ (plan : Bor (List ℕ)) (at : Place) where
  -- the law of the first in a line that is there
  abbrev Law : Result (Option ScriptLine) Fault → Type 0
  Law r =
      MatchResult r (λ _. NoneApplies (script_checks plan.now at.line at.offset))
      (λ e. (f : Finding) × StandsFirst (script_checks plan.now at.line at.offset) f × Tells plan f e)

  by_first : (o : Option Finding) (r : Result (Option ScriptLine) Fault) → first (script_checks plan.now at.line at.offset) ≡ o → ByFirst plan at o r → Law r
  by_first None r e answer = subst Law (sym answer) (none_applies (script_checks plan.now at.line at.offset) e)
  by_first (Some f) (Ok l) e answer = absurd answer
  by_first (Some f) (Err x) e answer = (f, stands_first (script_checks plan.now at.line at.offset) f e, answer)

  pub first_of_line : (r : Result (Option ScriptLine) Fault) → ReadsLine plan at r → FirstOfLine plan at r
  first_of_line r answer =
      elim (goes_on plan.now at.offset) as (λ b. MatchBool b (ByFirst plan at (first (script_checks plan.now at.line at.offset)) r) (r ≡ Ok None) → MatchBool b (Law r) (Unit {0}))
      [ true ↦ λ h. by_first (first (script_checks plan.now at.line at.offset)) r refl h | false ↦ λ h. tt ] answer
