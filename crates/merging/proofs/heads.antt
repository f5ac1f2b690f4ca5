pub mod Showing
pub mod Lining
mod Taking
