pub mod Held
pub mod Names
pub mod Parties
pub mod Texts
pub mod Records
pub mod Steps
