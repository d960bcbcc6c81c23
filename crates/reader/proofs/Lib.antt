pub mod LegalSheets
pub mod LentLists
pub mod Same
pub mod Cases
pub mod RowLabels
pub mod Reach
pub mod Wrong
pub mod Inside
mod Names
