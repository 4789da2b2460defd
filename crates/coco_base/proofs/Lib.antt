mod LineLemmas
mod WordLemmas
mod NumberLemmas
pub mod Ranges
pub mod Members
