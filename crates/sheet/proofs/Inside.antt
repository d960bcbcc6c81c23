pub mod Cells
pub mod ClearedLists
pub mod FilledLists
pub mod ListRows
pub mod Stores
