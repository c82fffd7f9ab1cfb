pub mod Found
pub mod Group
pub mod Last
pub mod Parts
pub mod Rows
