pub mod Halves
pub mod Last
pub mod Law
pub mod Marks
pub mod Ranges
pub mod Rows
pub mod TreeLaw
