pub mod Alphabets
pub mod Decoding
