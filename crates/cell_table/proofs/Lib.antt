pub mod Listed
pub mod Tables
pub mod Sums
pub mod LawLemmas
pub mod Expansion
