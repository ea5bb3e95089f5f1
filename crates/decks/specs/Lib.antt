-- The deck's entries, what a deck comes to, and the bytes of its answer.
pub mod Answer
pub mod Desk
pub mod Listing
