-- Laws of stored cases.
pub mod Digits
