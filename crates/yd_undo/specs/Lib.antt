pub mod Entry
pub mod Law
pub mod Remade
pub mod Stacks
pub mod Steps
pub mod Turn
