pub mod Gathering
pub mod Listed
pub mod Marks
pub mod Modes
pub mod Roles
