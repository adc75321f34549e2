pub mod Meaning
pub mod Over
