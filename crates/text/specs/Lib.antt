-- What is promised of a text that is written.
pub mod Wrote
pub mod Adds
