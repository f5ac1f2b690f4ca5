pub mod Steps
pub mod transitions
