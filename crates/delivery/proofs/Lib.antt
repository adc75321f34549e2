pub mod Passed
pub mod Sends
