pub mod Alone
pub mod AloneBy
pub mod Bounds
pub mod JobBounds
pub mod Kept
pub mod LeastTask
