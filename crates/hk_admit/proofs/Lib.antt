pub mod Sizes
pub mod Readable
pub mod Found
pub mod Owed
pub mod Parted
pub mod Kept
pub mod Excluded
pub mod Unique
