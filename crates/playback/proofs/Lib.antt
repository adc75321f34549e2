pub mod Through
pub mod Unfit
pub mod Leaves
pub mod Machines
