pub mod ChoiceLemmas
pub mod SelectorLemmas
pub mod LabelLemmas
pub mod SumLemmas
pub mod SizeLemmas
