pub mod Turns
pub mod Summing
pub mod Trees
pub mod Costs
pub mod Charges
