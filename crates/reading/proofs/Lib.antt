pub mod Sections
pub mod Passing
