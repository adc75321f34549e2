pub mod Appended
pub mod Printed
