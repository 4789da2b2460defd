pub mod Written
pub mod Verdicts
pub mod Stops
pub mod Laws
