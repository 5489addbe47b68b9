-- The tests of a load, found row by row.
pub mod PairRows
pub mod RowRuns
pub mod CodeTests
pub mod GraphRows
pub mod ClosedRows
pub mod ClosureRows
pub mod PlaceMarks
pub mod Passed
pub mod Standing
pub mod WalkSteps
pub mod WalkedFeasible
pub mod AcceptedLoads
