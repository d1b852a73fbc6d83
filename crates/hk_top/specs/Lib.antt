pub mod Names
pub mod Text
pub mod Refusals
pub mod Report
pub mod Headline
pub mod Tool
