-- The syntax tree, and what names stand for.
pub mod Tree
pub mod Symbols
pub mod Variables
pub mod Examples
