-- A failure as it is shown (O1 to O3).
pub mod Place
pub mod Failure
pub mod Examples
