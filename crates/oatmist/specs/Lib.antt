pub mod Convention
pub mod Version
pub mod Calls
pub mod Demands
