-- What the packer is promised by.
pub mod Tasks
pub mod Corners
pub mod Steps
pub mod Calls
