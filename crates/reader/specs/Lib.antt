pub mod Form
pub mod Answers
pub mod Lists
pub mod Longest
pub mod Cases
pub mod Wrong
pub mod Inside
