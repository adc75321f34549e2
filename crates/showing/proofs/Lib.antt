pub mod Parts
pub mod Names
pub mod Inside
pub mod Shown
