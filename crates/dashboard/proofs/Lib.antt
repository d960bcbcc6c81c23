pub mod Same
pub mod Cases
pub mod TextLengths
pub mod Inputs
pub mod Outcomes
pub mod NoVerdicts
pub mod Buffers
pub mod Verdicts
pub mod Wrong
pub mod LongestText
pub mod Inside
mod Names
