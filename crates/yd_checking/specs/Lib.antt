pub mod Counts
pub mod Example
pub mod Findings
pub mod Law
