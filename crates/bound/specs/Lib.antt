pub mod Quantities
pub mod Test
pub mod Bound
pub mod Cases
pub mod Wrong
pub mod Lists
pub mod Inside
