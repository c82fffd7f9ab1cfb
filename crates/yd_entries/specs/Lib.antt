pub mod Entries
pub mod Joining
pub mod Lookup
pub mod Lowering
pub mod Splitting
pub mod Staying
pub mod Taking
