pub mod Asking
pub mod Command
pub mod Table
pub mod Words
