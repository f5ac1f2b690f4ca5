pub mod HoldsFoata
pub mod Words
pub mod levels
