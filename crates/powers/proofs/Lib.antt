-- Lemmas on roots, powers and digits.
pub mod Digits
pub mod Power
pub mod Root
