pub mod Before
mod Agreeing
mod Repeated
