pub mod Places
pub mod Among
pub mod Fitting
