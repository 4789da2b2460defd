pub mod NodeCones
pub mod Coned
pub mod Marks
pub mod Weights
