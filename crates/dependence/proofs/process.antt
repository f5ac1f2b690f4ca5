pub mod Meeting
pub mod Checking
