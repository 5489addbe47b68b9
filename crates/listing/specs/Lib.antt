-- The definitions that the listing's contracts cite.
pub mod Decimal
pub mod Padded
pub mod Line
pub mod FaultLine
pub mod PackLines
pub mod CommandLines
pub mod Deciding
pub mod ScriptLines
pub mod Whole
pub mod Bordered
pub mod ScriptLaw
pub mod PrintedPackings
pub mod WorkedListing
pub mod LawOfRuns
