pub mod Line
pub mod Lines
pub mod Holding
pub mod Law
