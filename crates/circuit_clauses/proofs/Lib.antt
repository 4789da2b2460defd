pub mod Placing
pub mod Truths
pub mod Gating
pub mod Evaluating
pub mod Sequences
pub mod Sizes
