-- Laws of emission.
pub mod EmittedPools
pub mod Lays
pub mod EmittedWords
