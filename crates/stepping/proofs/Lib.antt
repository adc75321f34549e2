mod Room
mod Heirs
pub mod Steps
