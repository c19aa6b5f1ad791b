pub mod Places
pub mod Export
pub mod Examples
