-- The answer of a parsing says which of its checks comes first.
use Rattle.std.proofs.Common.{◌≡◌, ℕ, List, Some, None, Ok, Err, Option, Result, refl, Bor}
use Rattle.sheets.specs.declared.fault.Fault.{Fault}
use Rattle.sheets.specs.declared.fault.Finding.{Finding}
use Rattle.sheets.specs.declared.parsed.Parsed.{Parsed}
use Rattle.sheets.specs.Checks.{first}
use Rattle.sheets.specs.Parsing.{Held, Answers, AnswersBy, FirstOf, checks_for}
use Rattle.sheets.proofs.CheckLemmas.{stands_first, none_applies}

module _ (sizes plan : Bor (List ℕ)) (h : Held) where
  by_first : (o : Option Finding) (r : Result Parsed Fault) → first (checks_for sizes.now plan.now h) ≡ o → AnswersBy sizes plan o r → FirstOf sizes plan h r
  by_first None (Ok p) e answer = none_applies (checks_for sizes.now plan.now h) e
  by_first None (Err x) e answer = absurd answer
  by_first (Some f) (Ok p) e answer = absurd answer
  by_first (Some f) (Err x) e answer = (f, stands_first (checks_for sizes.now plan.now h) f e, answer)

  pub first_of : (r : Result Parsed Fault) → Answers sizes plan h r → FirstOf sizes plan h r
  first_of r answer = by_first (first (checks_for sizes.now plan.now h)) r refl answer
