pub mod Turns
pub mod Limits
