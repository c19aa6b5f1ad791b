-- The machine follows the meaning of a program that stands in its map.
pub mod Cells
pub mod Relate
pub mod Instructions
pub mod Classes
pub mod Control
pub mod Tests
pub mod Parts
pub mod Expressions
pub mod Statements
pub mod Procedures
pub mod Fuel
pub mod Top
