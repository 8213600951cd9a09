pub mod Settlements
pub mod Steps
pub mod Runs
