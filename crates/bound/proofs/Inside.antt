pub mod Judging
pub mod Lengths
pub mod Rows
