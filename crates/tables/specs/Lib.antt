pub mod Tables
pub mod Wrong
