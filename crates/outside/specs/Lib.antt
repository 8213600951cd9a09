pub mod Seasons
pub mod Standby
pub mod Fees
