-- Ranges, names, entries, figures, and sets of settings.
pub mod Entries
pub mod Figures
pub mod Names
pub mod Ranges
pub mod Sets
