pub mod Answering
pub mod Cycle
pub mod Together
pub mod Event
pub mod Turns
pub mod Telling
