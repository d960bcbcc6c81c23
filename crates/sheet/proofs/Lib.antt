pub mod RoundTrip
pub mod Legality
pub mod Ranges
pub mod Same
pub mod Wrong
pub mod Inside
mod Names
