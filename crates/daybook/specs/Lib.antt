pub mod Calls
pub mod Worked
pub mod Told
pub mod Enrolments
pub mod Changes
pub mod Verdicts
