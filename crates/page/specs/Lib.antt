pub mod Pages
pub mod Decimals
pub mod Words
pub mod Wrong
