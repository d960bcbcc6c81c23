pub mod Lines
pub mod Longest
pub mod Texts
pub mod Cases
pub mod Wrong
