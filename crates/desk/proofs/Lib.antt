pub mod Parts
pub mod AcceptedFacts
pub mod Demands
