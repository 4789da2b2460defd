pub mod LeafLemmas
pub mod Schedules
