pub mod Counted
pub mod Editing
pub mod Kept
pub mod Keys
pub mod Last
pub mod Waiting
