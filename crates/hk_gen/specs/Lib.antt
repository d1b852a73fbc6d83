pub mod Made
pub mod Admission
