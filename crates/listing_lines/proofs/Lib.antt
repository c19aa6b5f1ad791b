-- Laws of the lines of words and of the whole listing, and its longest length.
pub mod Laws
pub mod Longest
