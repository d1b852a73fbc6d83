pub mod Orders
pub mod Assignment
pub mod Placing
pub mod Sheets
pub mod Tool
