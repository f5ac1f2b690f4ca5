pub mod Classes
pub mod Merging
pub mod Merged
pub mod ColumnBytes
pub mod Calls
pub mod Demands
pub mod WorkedColumns
