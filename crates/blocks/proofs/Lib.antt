pub mod Shifts
pub mod Copies
