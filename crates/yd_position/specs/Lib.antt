pub mod Grammar
pub mod Law
pub mod Reading
pub mod Target
pub mod Writing
