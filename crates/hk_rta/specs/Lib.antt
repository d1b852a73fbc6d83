pub mod Ahead
pub mod Busy
pub mod Demand
pub mod Least
pub mod Response
