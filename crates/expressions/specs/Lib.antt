-- Expressions and conditions, compiled.
pub mod Vocabulary
pub mod Chains
pub mod Compiles
pub mod Unaries
