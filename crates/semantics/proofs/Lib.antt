pub mod Simulation
pub mod Demand
