-- Lemmas on levels.
pub mod Weights
