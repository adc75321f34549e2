pub mod Base
pub mod Rows
pub mod Figures
pub mod Histories
pub mod Pairs
pub mod Premises
pub mod Printed
