-- What an enclosure of a power is, and the pair of numbers that the digits lead to.
pub mod Law
pub mod Powers
pub mod Roots
