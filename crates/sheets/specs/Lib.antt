-- What the contracts of this crate cite.
pub mod AtLines
pub mod Checks
pub mod Faults
pub mod Fields
pub mod Lines
pub mod Lists
pub mod Parsing
pub mod Promises
pub mod Reading
pub mod Script
pub mod SizesRead
pub mod Words
