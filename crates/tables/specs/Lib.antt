-- What a table holds, as a list and by key, and why an entry or a removal is refused.
pub mod Cells
pub mod Keys
pub mod Lending
pub mod Refusals
pub mod Rows
pub mod Table
