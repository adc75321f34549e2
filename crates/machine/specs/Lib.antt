pub mod Machine
pub mod State
