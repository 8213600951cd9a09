pub mod Sites
pub mod Refusals
pub mod Figures
