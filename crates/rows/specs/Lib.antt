pub mod components
pub mod entries
pub mod repeats
pub mod judge
pub mod table
pub mod Reading
pub mod Calls
pub mod Demands
