pub mod Headed
pub mod Heads
