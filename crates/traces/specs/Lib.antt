pub mod Projections
pub mod Words
pub mod Steps
pub mod Offences
pub mod Foata
