pub mod Transitions
pub mod Counted
pub mod Locally
pub mod SectionParts
pub mod Running
pub mod Wanting
pub mod Entering
