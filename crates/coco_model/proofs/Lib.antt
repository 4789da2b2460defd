pub mod Basics
pub mod Walks
pub mod Keepers
pub mod Bits
pub mod Signs
pub mod Choices
pub mod ListedLabels
pub mod LivePlaces
mod Circuits
mod Pulses
mod Unshared
mod UnsharedValue
mod Masked
mod MaskedRun
mod Needs
mod Overwritten
mod Windowed
