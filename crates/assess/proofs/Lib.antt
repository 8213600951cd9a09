mod Loads
mod Walks
pub mod Firsts
