pub mod Draws
pub mod Generated
pub mod Law
pub mod Plain
