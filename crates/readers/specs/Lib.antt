pub mod Lines
pub mod Emergency
pub mod Worked
pub mod EmergencyLaws
