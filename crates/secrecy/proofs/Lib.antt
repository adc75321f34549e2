pub mod Wearing
pub mod Serving
