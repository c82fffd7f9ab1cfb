pub mod Address
pub mod Board
pub mod Doors
pub mod Looking
pub mod Numbers
