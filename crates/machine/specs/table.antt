pub mod Table
pub mod Layout
pub mod Filling
pub mod Preparing
