pub mod Answers
pub mod ReadLaws
