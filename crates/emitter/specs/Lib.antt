-- Emission as the code does it: one word after another, with a pool that grows.
pub mod Emitted
pub mod Lays
