pub mod Joined
pub mod Taking
mod Below
mod AllParts
mod Endings
mod Followed
mod WholeRuns
