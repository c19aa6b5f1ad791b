-- What the proofs of several functions use.
pub mod ReadingLaws
pub mod DemandThree
pub mod DemandOne
pub mod ScratchLaws
