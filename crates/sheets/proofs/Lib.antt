-- Lemmas that the proofs of this crate share.
pub mod AnswerLemmas
pub mod CheckLemmas
pub mod FieldLemmas
pub mod LineLemmas
pub mod ListLemmas
pub mod LoopLemmas
pub mod RoomLemmas
pub mod ScriptLemmas
pub mod StageLemmas
