pub mod Marks
pub mod Refusals
pub mod Lent
pub mod Tame
pub mod Faults
pub mod Wrong
pub mod Same
pub mod Inside
