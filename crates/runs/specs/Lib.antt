pub mod Steps
pub mod Outcomes
pub mod Runs
pub mod Calls
pub mod RunLaws
pub mod ClockLaws
pub mod Examples
