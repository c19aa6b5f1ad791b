mod Every
pub mod Rows
pub mod Choice
pub mod Members
pub mod Proper
pub mod Encoding
