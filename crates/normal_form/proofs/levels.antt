pub mod Raising
pub mod Walking
