pub mod Gathered
pub mod Assertions
pub mod Closing
pub mod PolicyRange
pub mod Places
