pub mod Each
pub mod Numbers
pub mod Names
pub mod Answers
