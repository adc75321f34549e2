pub mod Offenders
pub mod Forms
