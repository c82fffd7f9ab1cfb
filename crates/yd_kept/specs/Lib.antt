pub mod Back
pub mod Filling
pub mod Kept
pub mod Marking
pub mod Placing
pub mod Telling
