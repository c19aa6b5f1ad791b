-- Numbers as text.
pub mod Digits
pub mod Examples
