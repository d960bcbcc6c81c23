pub mod Back
pub mod ListCalls
pub mod Refusals
pub mod Same
pub mod ScenarioCalls
pub mod SheetCalls
pub mod Wrong
pub mod WrongFurther
pub mod WrongScenarios
pub mod WrongSheets
pub mod Inside
mod Names
