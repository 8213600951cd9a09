pub mod Text
pub mod Lines
pub mod Numbers
pub mod Fields
pub mod Lists
