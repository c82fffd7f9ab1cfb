pub mod Line
pub mod Replicas
pub mod Same
pub mod Stopped
