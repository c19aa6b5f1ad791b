pub mod Arithmetic
pub mod Bytes
pub mod Shift
