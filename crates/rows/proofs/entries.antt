pub mod Columns
mod Taken
