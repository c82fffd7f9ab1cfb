pub mod Cutting
pub mod Joining
pub mod Lending
pub mod Named
pub mod Reaching
pub mod Told
