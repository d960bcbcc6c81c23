pub mod Numbers
pub mod Cases
pub mod Wrong
pub mod Inside
