pub mod Again
pub mod Each
pub mod Keyed
pub mod Law
