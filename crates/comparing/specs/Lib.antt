pub mod Calls
pub mod Both
pub mod Demands
