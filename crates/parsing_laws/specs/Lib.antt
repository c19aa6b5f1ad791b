pub mod Numbered
pub mod WellFormed
pub mod Turns
pub mod Examples
