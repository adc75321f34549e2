pub mod Layouts
pub mod Collecting
pub mod Laying
pub mod Answers
