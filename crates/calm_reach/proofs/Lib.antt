pub mod MaskLemmas
pub mod ForcingLemmas
pub mod WalkLemmas
