pub mod Playback
pub mod Running
