mod Starts
mod Times
mod Responses
mod BusyPeriod
mod Statements
mod Readable
mod Admissible
pub mod Drawn
