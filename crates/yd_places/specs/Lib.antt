pub mod Lent
pub mod Place
