-- Demand 3, from acceptance, the memory map and the simulation.
pub mod Theorem
pub mod Checked
pub mod Loading
pub mod Samples
pub mod MeaningLaws
