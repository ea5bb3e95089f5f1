-- The levels as bearers, their shares, and the sheet.
pub mod Bearings
pub mod Bears
pub mod Laws
pub mod Shares
pub mod Sheet
pub mod Summed
