pub mod Halves
pub mod Nearest
