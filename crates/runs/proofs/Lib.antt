pub mod Iteration
pub mod Refusals
pub mod Keeping
pub mod Lists
pub mod RunLaws
pub mod ClockLaws
