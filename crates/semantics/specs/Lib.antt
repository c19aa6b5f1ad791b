pub mod Trace
pub mod Acts
pub mod Meaning
pub mod Agreement
pub mod CheckedLaws
pub mod Examples
pub mod OutsideExamples
pub mod MeaningLaws
