pub mod Failure
pub mod State
pub mod Address
pub mod Step
pub mod Clock
pub mod Run
pub mod Examples
pub mod ClockExamples
