-- What a person is shown of a source (O4 to O8).
pub mod Globals
pub mod Shown
pub mod Examples
