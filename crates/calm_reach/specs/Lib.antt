pub mod CalmRows
pub mod Masks
pub mod Walks
pub mod Forcing
