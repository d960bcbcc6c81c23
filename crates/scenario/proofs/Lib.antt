pub mod BothWays
pub mod Cases
pub mod Longest
pub mod ReadIsWritten
pub mod Refusals
pub mod Same
pub mod Slots
pub mod Windows
pub mod WrittenIsRead
pub mod Wrong
pub mod Inside
mod Names
