-- What the packer is proved by.
pub mod WrongSides
pub mod Corners
pub mod OneModule
pub mod Filling
pub mod Chips
pub mod Outcomes
