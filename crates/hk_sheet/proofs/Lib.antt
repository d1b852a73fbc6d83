mod Elements
mod KeyOrder
mod Spacing
mod FaultOrder
mod Ranges
mod NameOrder
pub mod Validity
mod Answering
mod RawFaults
mod Turns
pub mod Redeclared
pub mod Unfaulted
pub mod Plain
pub mod Shallow
pub mod Puts
pub mod OneAnswer
