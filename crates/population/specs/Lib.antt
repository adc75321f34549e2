pub mod Arrays
pub mod Lent
pub mod Refusals
