pub mod Local
pub mod Steps
