pub mod Chains
pub mod Ticks
pub mod Good
pub mod RunSteps
