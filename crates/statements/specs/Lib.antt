-- Statements, compiled.
pub mod Forms
