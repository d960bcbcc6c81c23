pub mod Agree
pub mod Cases
pub mod Deadlines
pub mod LegalLists
pub mod LegalRuns
pub mod PastRows
pub mod Placement
pub mod Ranges
pub mod RefusalTable
pub mod Same
pub mod SlotsDone
pub mod SlotsInPlace
pub mod StatesAfter
pub mod Wrong
pub mod Inside
mod Names
