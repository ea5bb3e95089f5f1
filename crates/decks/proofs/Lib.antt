-- Lemmas on the deck's answer.
pub mod Lines
pub mod Outcome
pub mod Pages
