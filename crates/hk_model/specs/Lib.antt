pub mod Heap
pub mod Replies
pub mod History
pub mod Reach
pub mod Lasting
pub mod Laws
pub mod Plain
pub mod View
