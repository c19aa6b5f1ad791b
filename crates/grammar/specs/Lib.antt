-- Which tree a source is, or which failure it is refused with.
pub mod Parse
pub mod Vocabulary
pub mod Cells
pub mod Expressions
pub mod Statements
pub mod Declarations
pub mod Program
pub mod Computed
pub mod Examples
pub mod Failures
