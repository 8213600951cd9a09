pub mod Faults
pub mod Fields
pub mod Energy
pub mod Payments
pub mod Weights
pub mod Sums
pub mod Figures
