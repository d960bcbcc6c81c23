pub mod Checks
pub mod Held
pub mod Lengths
pub mod Rows
pub mod Stored
