-- Laws of spans, numbers, constants, signs, keywords and names; Bounds is for parsing.
pub mod Tests
pub mod SpanLaws
pub mod Numbers
pub mod Constants
pub mod Signs
pub mod Same
pub mod KindLaws
pub mod Tables
pub mod Widths
pub mod Choices
pub mod Bounds
pub mod Names
