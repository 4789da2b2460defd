pub mod Laws
pub mod RunLaws
pub mod NodeLaws
