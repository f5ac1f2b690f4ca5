pub mod CallAnswers
pub mod Demands
mod Parts
pub mod Room
mod Tests
