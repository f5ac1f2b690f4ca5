pub mod Columns
pub mod ColumnBytes
pub mod ColumnRefusals
pub mod Reading
pub mod Calls
pub mod Demands
pub mod Merging
pub mod WorkedColumns
