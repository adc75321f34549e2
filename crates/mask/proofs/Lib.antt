pub mod Digits
pub mod Items
pub mod Width
pub mod Size
pub mod Shifted
pub mod Counted
