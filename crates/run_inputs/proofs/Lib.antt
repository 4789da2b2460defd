pub mod Leafless
pub mod Stops
