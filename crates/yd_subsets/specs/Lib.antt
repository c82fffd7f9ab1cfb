pub mod Below
pub mod Cut
pub mod Part
