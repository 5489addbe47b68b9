-- What the proofs of the sequence pair share.
pub mod Counted
pub mod Following
pub mod HandedOut
pub mod TakenIn
pub mod ThroughGraphs
