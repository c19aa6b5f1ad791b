-- Stored cases.
pub mod Cases
