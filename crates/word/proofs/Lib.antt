pub mod Signs
pub mod Bounds
