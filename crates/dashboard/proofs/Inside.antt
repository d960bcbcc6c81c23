pub mod Boards
pub mod Reports
