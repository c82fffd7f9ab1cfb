pub mod Half
pub mod Law
pub mod Text
