pub mod Trees
pub mod Rankings
pub mod Listings
