mod Looking
mod Alphabets
mod Elements
pub mod Answers
