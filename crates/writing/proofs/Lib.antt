pub mod Lending
pub mod Sections
