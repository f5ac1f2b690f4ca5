pub mod Refusal14
