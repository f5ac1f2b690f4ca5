pub mod Places
mod Leaving
mod Upward
pub mod Fronts
