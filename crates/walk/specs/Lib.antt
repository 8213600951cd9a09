pub mod Totals
pub mod Flaws
