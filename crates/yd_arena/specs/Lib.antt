pub mod Arena
pub mod Joining
pub mod Law
pub mod Lists
pub mod Marks
pub mod MarksLaw
pub mod Rows
