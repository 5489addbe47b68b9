-- What rows of sets tell of edges, and what loops over them make.
pub mod Rows
pub mod Changing
pub mod Reaching
pub mod Combining
pub mod Tallying
