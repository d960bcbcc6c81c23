pub mod Calls
pub mod Demand
pub mod Green
pub mod Lent
pub mod Tight
pub mod Wrong
pub mod Inside
