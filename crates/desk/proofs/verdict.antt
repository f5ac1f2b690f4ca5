pub mod Judging
pub mod EndArrays
