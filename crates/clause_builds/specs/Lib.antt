pub mod Builds
pub mod Rows
