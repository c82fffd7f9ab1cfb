pub mod Received
pub mod Structs
