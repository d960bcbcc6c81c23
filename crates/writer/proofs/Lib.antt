pub mod BothWays
pub mod Cases
pub mod Longest
pub mod ReadIsWritten
pub mod Refusals
pub mod Same
pub mod WrittenIsRead
pub mod Wrong
pub mod Inside
mod Names
