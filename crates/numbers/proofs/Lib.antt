pub mod Back
pub mod Cases
pub mod Encoding
pub mod OneSpelling
pub mod Written
pub mod Wrong
pub mod Inside
mod Names
