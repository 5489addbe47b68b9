-- What two closure graphs with a sequence mean.
pub mod Sound
pub mod Shown
pub mod RowChanges
pub mod Meaning
pub mod Settled
