mod CycleLemmas
mod RunLemmas
