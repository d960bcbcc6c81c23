pub mod Parts
pub mod Ready
pub mod Skipping
