-- What sets of modules are promised by.
pub mod Members
