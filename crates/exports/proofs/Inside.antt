pub mod Bounds
pub mod BoxAnswers
pub mod Calls
pub mod Fields
pub mod NumberAnswers
pub mod Texts
pub mod LentAnswers
