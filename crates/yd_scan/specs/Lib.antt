pub mod Stretches
pub mod Scanning
pub mod Verdicts
pub mod Law
