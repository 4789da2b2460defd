pub mod Choices
pub mod Bumps
pub mod Seeds
pub mod Tree
