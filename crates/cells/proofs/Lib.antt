-- What the proofs of several crates use.
pub mod StartNames
pub mod StartLaws
