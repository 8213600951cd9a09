pub mod Values
pub mod Totals
pub mod Rows
pub mod Splits
