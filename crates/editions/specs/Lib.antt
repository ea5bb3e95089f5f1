-- Fractions, what an edition owes, and the editions, with the lemmas that show its laws.
pub mod Edition
pub mod Fractions
pub mod Nehrp
pub mod Nehrp2003
pub mod Period
pub mod Ratios
