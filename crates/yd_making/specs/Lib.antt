pub mod Blocks
pub mod Finding
pub mod Given
pub mod Rights
pub mod Standing
pub mod Steps
pub mod Types
pub mod Waiting
