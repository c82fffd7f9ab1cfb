pub mod Dishonest
pub mod Judging
pub mod Law
pub mod Pasts
