pub mod Each
pub mod Member
pub mod Test
