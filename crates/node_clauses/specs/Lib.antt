pub mod Choices
pub mod Selectors
pub mod Sums
pub mod Laws
pub mod Chosen
