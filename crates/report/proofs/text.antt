pub mod Bounds
pub mod Digits
pub mod Appending
