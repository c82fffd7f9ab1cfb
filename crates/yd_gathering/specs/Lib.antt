pub mod Blocks
pub mod Gathered
pub mod Gatherer
pub mod Growing
pub mod Late
pub mod Row
pub mod Said
pub mod Settled
