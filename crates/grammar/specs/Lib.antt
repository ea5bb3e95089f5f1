-- Words, lines, and the reading of a deck.
pub mod Editions
pub mod Lines
pub mod Reading
pub mod Words
