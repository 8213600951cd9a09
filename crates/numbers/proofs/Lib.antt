pub mod Integers
pub mod Sums
pub mod Checks
pub mod Ranges
