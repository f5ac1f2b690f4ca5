pub mod Lists
pub mod Bits
pub mod Walk
pub mod Demands
pub mod Elements
