-- Lemmas on what the listing writes.
pub mod Spelled
pub mod ReadBack
pub mod Records
pub mod Packings
pub mod ScriptSteps
pub mod ScriptEnds
pub mod Faultless
pub mod Outcomes
