pub mod EndsHeld
