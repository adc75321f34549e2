pub mod Creators
