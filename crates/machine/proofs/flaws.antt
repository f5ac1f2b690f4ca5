pub mod FlawNumbers
