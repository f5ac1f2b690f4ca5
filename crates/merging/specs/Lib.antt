pub mod legible
pub mod heads
pub mod merge
pub mod Words
