pub mod Form
pub mod Answers
pub mod Length
pub mod Good
pub mod Listed
pub mod Cases
pub mod Wrong
pub mod Inside
