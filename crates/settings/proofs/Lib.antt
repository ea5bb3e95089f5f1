-- Lemmas on settings.
pub mod Absent
pub mod Called
pub mod First
pub mod Figures
