pub mod Ranges
pub mod Choices
pub mod Lasting
pub mod Picking
pub mod Demanding
pub mod Sizes
pub mod Totals
pub mod Sized
