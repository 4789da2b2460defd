pub mod Marked
pub mod Verdicts
pub mod Laws
pub mod Texts
pub mod Faults
pub mod Trimmed
pub mod Used
