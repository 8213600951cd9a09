pub mod Faults
pub mod Fields
pub mod Categories
pub mod Losses
pub mod Lines
pub mod Bounds
pub mod Figures
