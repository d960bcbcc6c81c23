pub mod Digits
pub mod Same
pub mod Wrong
pub mod Inside
