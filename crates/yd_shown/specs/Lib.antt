pub mod Cut
pub mod Example
pub mod Front
pub mod Law
pub mod Pieces
pub mod Seen
pub mod Shown
