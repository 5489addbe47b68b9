-- Lemmas that the proofs of this crate share.
pub mod Passed
pub mod Loads
pub mod Outcomes
pub mod AfterParsing
pub mod Told
