pub mod Numbers
pub mod Joins
pub mod Writes
pub mod Chosen
