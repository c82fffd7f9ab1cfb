pub mod Content
pub mod Mending
pub mod Piece
