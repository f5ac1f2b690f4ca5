pub mod participants
