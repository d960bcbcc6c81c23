pub mod Bounds
pub mod Covers
pub mod Groups
pub mod Reach
pub mod Writing
