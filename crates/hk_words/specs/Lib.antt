pub mod Bounds
pub mod Calls
pub mod Draws
pub mod Geometry
pub mod Layout
pub mod Row
pub mod Shape
