-- Pieces between marks, numbers, and what is written.
pub mod Numbers
pub mod Pieces
pub mod Wrote
pub mod Writing
