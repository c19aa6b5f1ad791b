-- The listing as a text, and what is written of it.
pub mod Texts
