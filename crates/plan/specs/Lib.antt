pub mod Plan
pub mod Range
pub mod Listed
