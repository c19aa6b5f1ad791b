pub mod Facts
pub mod Copies
