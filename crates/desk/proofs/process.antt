pub mod Offending
