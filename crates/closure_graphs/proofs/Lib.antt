-- The mathematics of two closure graphs.
pub mod Refusals
pub mod RowTables
pub mod Counts
pub mod RowSteps
pub mod Directions
pub mod Fronts
pub mod StandsFor
pub mod CodeRows
pub mod Transposing
pub mod Changes
