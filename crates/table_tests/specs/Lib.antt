-- What the tests of a load answer.
pub mod Codes
pub mod Rows
pub mod Closure
pub mod Places
pub mod Tested
pub mod Walked
