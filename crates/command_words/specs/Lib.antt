pub mod Clap
pub mod Commands
pub mod Shown
pub mod Tables
pub mod Usage
pub mod Values
pub mod Words
