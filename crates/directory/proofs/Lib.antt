pub mod Found
pub mod Codes
