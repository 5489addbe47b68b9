-- The decision at hand.
use Rattle.std.specs.Prelude.{◌≡◌, is_some, Option}
use Rattle.planner.specs.declared.decision.Decision.{Decision}
use Rattle.plans.specs.Model.{State}

-- A decision is at hand exactly when a trial is open.
abbrev pub AtHand : Option Decision → State → Type 0
AtHand d s = is_some d ≡ is_some s.noted
