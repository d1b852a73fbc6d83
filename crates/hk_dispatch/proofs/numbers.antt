pub mod Interval
pub mod Charges
pub mod Losses
