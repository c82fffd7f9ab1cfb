-- The commands, each in a file of its own.
pub mod Check
pub mod Convert
pub mod Cut
pub mod Edit
pub mod Generate
pub mod Merge
pub mod Serve
pub mod Show
pub mod Sync
pub mod Vector
