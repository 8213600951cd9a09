pub mod Orders
pub mod Kinds
pub mod Refusals
pub mod Codes
