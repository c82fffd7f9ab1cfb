pub mod Bytes
pub mod Grammar
pub mod Law
pub mod Log
pub mod LogWriting
pub mod Reading
pub mod Taking
