-- What the code's answers stand for, and the parts of definitions that a function of its own reads.
pub mod Answers
pub mod Starts
