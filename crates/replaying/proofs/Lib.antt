pub mod Plays
pub mod Replays
