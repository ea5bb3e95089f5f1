-- Lemmas on sheets.
pub mod Bounds
pub mod Levels
pub mod Sharing
pub mod Sums
pub mod Tables
pub mod Walks
pub mod Whole
pub mod Writing
