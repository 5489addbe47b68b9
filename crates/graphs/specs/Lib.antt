-- What graphs on modules are promised by.
pub mod Edges
pub mod Tallies
