pub mod Closing
pub mod Falling
pub mod Law
pub mod Lending
pub mod Listing
pub mod Steps
