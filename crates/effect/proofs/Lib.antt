pub mod Unequal
