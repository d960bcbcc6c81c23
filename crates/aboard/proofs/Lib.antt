pub mod Same
pub mod Wrong
pub mod Inside
mod Names
