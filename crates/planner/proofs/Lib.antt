-- Lemmas of the plan.
pub mod ModelSteps
pub mod JoinedRuns
pub mod RunLaw
pub mod StepsInWords
