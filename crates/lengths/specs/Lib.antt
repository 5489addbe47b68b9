-- The kinds of length that are offered, and what a sum promises.
pub mod Sums
pub mod PlainLengths
pub mod CountedLengths
pub mod OfferedLemmas
pub mod CopiedLaws
pub mod Families
