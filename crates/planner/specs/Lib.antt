-- What the calls of a plan promise, and the law of their runs.
pub mod Layouts
pub mod States
pub mod Calls
pub mod PlanRuns
pub mod RunLaw
pub mod PlanCalls
