-- One walk over parsing: what is got is well-formed, and every failure is numbered and placed in the source.
pub mod Choices
pub mod Words
pub mod Parts
pub mod Limits
pub mod Names
pub mod Forms
pub mod Statements
pub mod Scopes
pub mod Locals
pub mod Declarations
pub mod Programs
