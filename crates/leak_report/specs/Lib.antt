pub mod Labels
pub mod Places
pub mod Reports
pub mod Texts
