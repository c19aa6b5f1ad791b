-- What every function that reads promises.
pub mod Failures
pub mod Reads
