pub mod Analysis
pub mod Conditions
pub mod Refusals
pub mod Parts
pub mod Ranges
pub mod Facts
pub mod Single
