-- Lemmas on the grammar.
pub mod Shorter
pub mod Stepping
