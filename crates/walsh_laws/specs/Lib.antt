pub mod Sums
pub mod NodeValues
pub mod Laws
pub mod Security
pub mod Written
pub mod Covered
pub mod Unrolled
pub mod Examples
