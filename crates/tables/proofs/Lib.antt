-- Lemmas on tables.
pub mod ByKey
pub mod Lists
pub mod Rising
pub mod Sought
pub mod Wholes
