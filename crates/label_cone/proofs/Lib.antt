pub mod NodeLemmas
pub mod SetLemmas
pub mod ConeLemmas
pub mod MarkLemmas
pub mod WeightLemmas
pub mod ConedLemmas
