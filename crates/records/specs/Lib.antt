pub mod Records
pub mod Steps
pub mod Checks
pub mod Methods
pub mod Wrong
