pub mod File
pub mod Given
pub mod Line
pub mod Lines
pub mod Reading
