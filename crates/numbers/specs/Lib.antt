pub mod Signs
pub mod Sums
pub mod Checks
pub mod Ranges
