-- Lemmas on cuts, numbers and what is written.
pub mod Cuts
pub mod Reading
pub mod Steps
pub mod Writing
