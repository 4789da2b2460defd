pub mod Runs
pub mod Probes
pub mod Weighing
pub mod Leaks
pub mod Labelled
pub mod Sizes
pub mod Laws
