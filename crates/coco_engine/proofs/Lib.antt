pub mod Pieces
pub mod Sizes
pub mod Stops
pub mod Replies
pub mod Runs
