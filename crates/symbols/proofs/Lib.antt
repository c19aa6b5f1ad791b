-- What the proofs of several crates use.
pub mod Packing
pub mod Table
pub mod PackedTokens
