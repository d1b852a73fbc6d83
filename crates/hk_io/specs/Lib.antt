pub mod Limits
pub mod Faults
pub mod Bytes
pub mod InMemory
pub mod Line
pub mod Status
pub mod Number
