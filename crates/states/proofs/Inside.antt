pub mod StepLoops
pub mod ValueLists
