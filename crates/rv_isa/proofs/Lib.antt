pub mod Formats
pub mod OneWord
pub mod Operands
