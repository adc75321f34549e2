pub mod Spawning
