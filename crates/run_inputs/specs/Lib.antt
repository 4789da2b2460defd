pub mod Inputs
pub mod Prepared
