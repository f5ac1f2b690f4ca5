pub mod FitsWord
pub mod Demands
pub mod Printing
