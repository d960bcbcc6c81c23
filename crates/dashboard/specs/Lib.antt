pub mod Words
pub mod Labels
pub mod Texts
pub mod Longest
pub mod Meaning
pub mod Cases
pub mod Wrong
pub mod Inside
