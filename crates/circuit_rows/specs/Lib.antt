pub mod Circuits
pub mod Flats
pub mod Gates
pub mod Json
pub mod Outcomes
pub mod Words
