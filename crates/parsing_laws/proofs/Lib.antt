pub mod Parsed
pub mod Turns
