pub mod Theorem
pub mod Histories
pub mod Instances
pub mod GreenAnswers
pub mod Lent
pub mod Refutation
pub mod Sheets
pub mod Slots
pub mod Soundness
pub mod WrongAnswers
pub mod Inside
mod Names
