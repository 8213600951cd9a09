pub mod Lines
pub mod Readings
pub mod Misfits
pub mod Soundness
pub mod Completion
pub mod Acceptance
pub mod Bounds
