pub mod Slots
pub mod Sheets
