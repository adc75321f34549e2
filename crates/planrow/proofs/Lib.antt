pub mod Reading
pub mod Places
pub mod RoundTrip
pub mod Parts
pub mod Lookup
pub mod Fits
pub mod Stands
