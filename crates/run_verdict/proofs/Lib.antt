pub mod Sources
pub mod Meanings
pub mod Refuted
pub mod Answers
