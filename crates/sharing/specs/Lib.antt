pub mod Rules
pub mod Running
pub mod RunningLaws
pub mod Leftover
pub mod LeftoverLaws
pub mod Figures
pub mod Choice
