pub mod Same
pub mod Cases
pub mod LineLengths
pub mod PlayedRuns
pub mod RunTexts
pub mod Wrong
pub mod Inside
mod Names
