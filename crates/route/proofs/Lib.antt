pub mod Routes
pub mod Searches
pub mod Sets
pub mod Lent
pub mod Crossings
pub mod Exact
pub mod Steps
pub mod Entering
