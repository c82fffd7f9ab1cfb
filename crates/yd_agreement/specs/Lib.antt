pub mod Differing
pub mod First
pub mod Law
pub mod Parting
pub mod Runs
pub mod Sweep
pub mod Units
