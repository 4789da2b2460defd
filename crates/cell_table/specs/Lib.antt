pub mod Names
pub mod Ternary
pub mod Live
pub mod Sums
pub mod Laws
