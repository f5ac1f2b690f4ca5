pub mod Participants
pub mod Levels
