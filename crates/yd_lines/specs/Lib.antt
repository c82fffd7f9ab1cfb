pub mod Flow
pub mod Given
pub mod Lines
