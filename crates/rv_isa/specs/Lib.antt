-- The formats and fields of instruction words; the tables of instructions and their words; what an instruction does.
pub mod Fields
pub mod Words
pub mod Steps
