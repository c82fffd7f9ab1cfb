pub mod AwareLaw
pub mod AwareTable
pub mod Ending
pub mod Rows
pub mod Telling
pub mod Undoing
pub mod Verdict
