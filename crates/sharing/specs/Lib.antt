-- What is true of an amount that is shared.
pub mod Sharing
