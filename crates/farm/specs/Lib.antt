-- What is promised of this program.
pub mod Words
