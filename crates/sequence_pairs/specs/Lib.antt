-- What a sequence pair means, and how its parts are told.
pub mod Keeping
pub mod Meaning
pub mod ToldLemmas
pub mod Kept
