-- What `compile` answers and leaves, and the demands as its caller sees them.
pub mod Compile
pub mod Readings
pub mod DemandThree
pub mod DemandOne
pub mod ScratchLaws
