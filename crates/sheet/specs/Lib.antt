pub mod Legal
pub mod Values
pub mod Lists
pub mod Wrong
