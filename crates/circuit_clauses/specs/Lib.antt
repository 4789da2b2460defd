pub mod Signals
pub mod Steps
pub mod Gates
pub mod Formulas
pub mod Meanings
pub mod Laws
