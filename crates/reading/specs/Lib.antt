pub mod Reading
pub mod records
pub mod transitions
