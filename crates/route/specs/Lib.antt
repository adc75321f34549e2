pub mod Route
pub mod Search
pub mod Lent
