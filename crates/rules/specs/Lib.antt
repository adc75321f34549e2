pub mod Judge
pub mod Rules
pub mod Broken
pub mod Show
pub mod Sentences
pub mod Faults
pub mod Words
