pub mod Embed
