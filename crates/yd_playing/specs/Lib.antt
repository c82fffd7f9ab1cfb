pub mod Answer
pub mod Asked
pub mod Desk
pub mod Ended
pub mod Law
pub mod Led
pub mod Played
pub mod Stopped
