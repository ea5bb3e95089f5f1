-- The numbers of causes and layers, and ranges of figures.
pub mod Numbers
pub mod Ranges
