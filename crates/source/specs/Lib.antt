-- Bytes and tokens of the source.
pub mod Bytes
pub mod Kinds
pub mod Keywords
pub mod Classes
pub mod Tokens
pub mod Signed
pub mod Tables
pub mod Examples
