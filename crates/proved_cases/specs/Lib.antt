pub mod Case
pub mod Samples
pub mod Table
