pub mod Memories
pub mod Writes
pub mod Simulations
