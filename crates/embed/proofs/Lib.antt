pub mod Replayed
pub mod Begun
