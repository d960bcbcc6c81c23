pub mod StepsTogether
pub mod Same
pub mod Inside
mod Names
