pub mod Sameness
pub mod TwoSheetCalls
pub mod Demands
