pub mod History
pub mod Promise
pub mod Replay
