pub mod Fits
pub mod Parts
pub mod Lent
pub mod ByRow
