-- How a run ends, as it is printed.
pub mod Ended
