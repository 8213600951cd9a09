pub mod Weights
pub mod Terms
pub mod Ranges
pub mod Limits
