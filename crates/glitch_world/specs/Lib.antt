pub mod Leaves
pub mod States
pub mod Laws
