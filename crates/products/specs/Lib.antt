pub mod Product
pub mod ProductBytes
pub mod ProductRefusals
pub mod ProductSheet
pub mod ProductVerdict
pub mod WorkedProducts
