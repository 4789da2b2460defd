pub mod Chosen
pub mod Reached
pub mod Listed
pub mod Shares
pub mod Shown
