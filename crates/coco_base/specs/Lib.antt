pub mod LabelSets
pub mod Causes
pub mod Memory
pub mod Outside
pub mod Texts
pub mod Numbers
pub mod BitNames
pub mod Shown
