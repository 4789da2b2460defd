pub mod Leaving
pub mod Lists
pub mod Past
pub mod Sizing
pub mod Tallying
