pub mod Choice
pub mod Text
pub mod Sum
