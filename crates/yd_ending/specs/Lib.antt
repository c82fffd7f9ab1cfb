pub mod Ending
pub mod Lines
pub mod Message
pub mod Reason
pub mod Script
pub mod Status
pub mod Writing
