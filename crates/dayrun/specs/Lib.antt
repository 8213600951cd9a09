pub mod Does
pub mod Reading
