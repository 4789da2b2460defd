pub mod Faults
pub mod Places
pub mod Types
pub mod OneMore
pub mod Orders
pub mod FlatLaws
pub mod Json
