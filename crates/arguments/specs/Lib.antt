pub mod Arguments
pub mod Examples
