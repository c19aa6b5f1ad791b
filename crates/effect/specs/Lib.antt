pub mod Registers
pub mod Double
pub mod Effects
pub mod Skips
pub mod Examples
