-- What the contracts of reading two sheets into a representation cite.
pub mod Written
pub mod PlanFaults
pub mod Outcome
pub mod Rows
